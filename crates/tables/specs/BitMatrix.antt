-- A bit matrix in words: a bit for each two jobs.
use Rattle.std.specs.Prelude.{◌≡◌, ℕ, ◌+◌, ◌*◌, ◌/◌, ◌%◌, ◌<◌, ◌≤◌, Bool, true, false, ◌&&◌, ◌||◌, List, Option, MatchOption, slice_index, ◌==◌}
use Rattle.tables.specs.declared.indexed.TheConstants.{JOB_WORDS, WORD_JOBS}
use Rattle.std.specs.Int.{bit_at}
use Rattle.rows.specs.Waiting.{Waiting, at, among}
use Rattle.tables.specs.Tables.{IsTable}
use Rattle.tables.specs.declared.table.TheConstants.{JOBS_MAX}

-- Whether it is marked that a job waits for u: the waiter's bit in the words of u is 1.
abbrev pub is_marked : List ℕ → (u waiter : ℕ) → Bool
is_marked words u waiter = bit_at (slice_index words (u * JOB_WORDS + waiter / WORD_JOBS)) (waiter % WORD_JOBS) == 1

-- Besides what was marked, it is marked that a job waits for u; nothing else is.
abbrev pub MarkedToo : (u waiter : ℕ) → (was is : List ℕ) → Type 0
MarkedToo u waiter was is = (t v : ℕ) → v < JOBS_MAX → is_marked is t v ≡ (is_marked was t v || (t == u && v == waiter))

-- Besides what was marked, it is marked that a job waits for each of some targets; nothing else is.
abbrev pub RowMarked : (targets : List ℕ) → (waiter : ℕ) → (was is : List ℕ) → Type 0
RowMarked targets waiter was is = (t v : ℕ) → v < JOBS_MAX → is_marked is t v ≡ (is_marked was t v || (v == waiter && among t targets))

-- The words mark exactly who waits for whom, in the rows of a table.
pub record MarksWaits (rows : List Waiting) (words : List ℕ) : Type 0 where
  pub table : IsTable rows
  pub exact : (u waiter : ℕ) → waiter < JOBS_MAX → is_marked words u waiter ≡ among u (at rows waiter).targets

-- The bits of a word show which of the jobs that it is for wait for u.
abbrev pub ShowsWaiters : List Waiting → (u word bits : ℕ) → Type 0
ShowsWaiters rows u word bits = (i : ℕ) → i < WORD_JOBS → (bit_at bits i == 1) ≡ among u (at rows (word * WORD_JOBS + i)).targets

-- The number behind those of the word in which a number lies.
abbrev pub word_end : ℕ → ℕ
word_end from = (from / WORD_JOBS + 1) * WORD_JOBS

-- The first waiter of u from a number on; or none waits from there on up to another.
abbrev pub FirstUpTo : List Waiting → (u from to : ℕ) → Option ℕ → Type 0
FirstUpTo rows u from to found =
    MatchOption found ((v : ℕ) → from ≤ v → v < to → among u (at rows v).targets ≡ false)
    (λ v. (from ≤ v) × (among u (at rows v).targets ≡ true) × ((w : ℕ) → from ≤ w → w < v → among u (at rows w).targets ≡ false))
