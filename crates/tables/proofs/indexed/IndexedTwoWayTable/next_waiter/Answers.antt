-- What a word tells of the waiters in it.
use Rattle.std.proofs.Common.{arith}
use Rattle.tables.proofs.BitScans.{no_job_is_waited_for_past_the_last, none_is_first, found_is_first}
use Rattle.tables.proofs.indexed.IndexedTwoWayTable.next_waiter.Goals as goal

pub returns-then-job-ge-JOBS_MAX : goal.returns-then-job-ge-JOBS_MAX
returns-then-job-ge-JOBS_MAX g c =
    no_job_is_waited_for_past_the_last c.args.self.now.marked c.args.job c.args.from (omega arith)

pub returns-in-Some : goal.returns-in-Some
returns-in-Some g c =
    let walked = c.loop-low.invariant in
    found_is_first c.args.self.now.marked c.args.job c.args.from c.loop-low.low walked.1 c.in-Some.waiter walked.0 c.in-Some.ensures

pub returns : goal.returns
returns g c =
    let walked = c.loop-low.invariant in
    none_is_first c.args.self.now.marked c.args.job c.args.from c.loop-low.low walked.1 (omega arith)
