-- A word of the job shows who waits; past the last job and word there is none to show.
use Rattle.std.proofs.Common.{inl, inr, arith}
use Rattle.tables.proofs.BitScans.{word_shows_waiters, no_bit_shows_waiters}
use Rattle.tables.proofs.indexed.Indexed.waiters_in_word.Goals as goal
use Rattle.tables.proofs.indexed.Indexed.waiters_in_word.Goals.{then-job-ge-JOBS_MAX-via-then-job-ge-JOBS_MAX, then-job-ge-JOBS_MAX-via-else-job-ge-JOBS_MAX+then-word-ge-JOB_WORDS}

pub returns-then-job-ge-JOBS_MAX : goal.returns-then-job-ge-JOBS_MAX
returns-then-job-ge-JOBS_MAX g c =
    let none = no_bit_shows_waiters c.args.self.now.marked c.args.job c.args.word in
    elim c.then-job-ge-JOBS_MAX.branch [
      | then-job-ge-JOBS_MAX-via-then-job-ge-JOBS_MAX w ↦ none (inl (omega (arith, w.if-job-ge-JOBS_MAX.true)))
      | then-job-ge-JOBS_MAX-via-else-job-ge-JOBS_MAX+then-word-ge-JOB_WORDS w ↦ none (inr (omega (arith, w.if-word-ge-JOB_WORDS.true)))
    ]

pub returns : goal.returns
returns g c = word_shows_waiters c.args.self.now.marked c.args.job c.args.word (omega (arith, c.if-word-ge-JOB_WORDS.false))
