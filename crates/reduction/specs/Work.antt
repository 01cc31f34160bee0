-- How far a reduction has come: what its steps keep.
use Rattle.std.specs.Prelude.{◌≡◌, ℕ, ◌+◌, ◌-◌, ◌<◌, ◌≤◌, Bool, true, false, cond, not, ◌&&◌, ◌⊎◌, ◌↔◌, List, [], ◌∷◌, ◌++◌, length, count_by, ◌==◌, nat_eq, slice_index, slice_index_or, slice_set}
use Rattle.rows.specs.Waiting.{Waiting, at, among}
use Rattle.tables.specs.ClosedSets.{count, IsLoosened}
use Rattle.tables.specs.Tables.{lawful}
use Rattle.tables.specs.declared.table.TheConstants.{JOBS_MAX}
use Rattle.reduction.specs.Marks.{loose, stuck, is_loose}

-- The rows of the table, the jobs' marks, how many targets each job that is not marked lacks, and the queued jobs: those that are marked,
-- whose waiters are still to be looked at.
pub record Work : Type 0 where
  pub rows : List Waiting
  pub marks : List ℕ
  pub lacking : List ℕ
  pub queue : List ℕ

-- How many jobs are marked.
abbrev pub loose_count : List ℕ → ℕ
loose_count marks = count_by (λ m. nat_eq m loose) marks

-- How many jobs can still be taken from the queue: those in it, and those that can still be marked.
abbrev pub steps_left : Work → ℕ
steps_left w = length w.queue + (length w.marks - loose_count w.marks)

-- The jobs that are marked, and no longer queued: their waiters have been looked at.
abbrev pub is_processed : (marks queue : List ℕ) → ℕ → Bool
is_processed marks queue v = is_loose marks v && not (among v queue)

-- No number stands in a list twice.
abbrev pub NoneTwice : List ℕ → Type 0
NoneTwice [] = Unit {0}
NoneTwice (x ∷ xs) = (among x xs ≡ false) × NoneTwice xs

-- There is a mark and a counter for each job, of a lawful table, and a mark is 0 or 1; marked jobs are loosened; each queued job is marked, and is queued
-- once; and no more are queued than are marked.
pub record SoundMarks (w : Work) : Type 0 where
  pub size : length w.marks ≡ JOBS_MAX
  pub counters : length w.lacking ≡ JOBS_MAX
  pub lawful : lawful w.rows ≡ true
  pub len : length w.rows ≤ length w.marks
  pub bits : (v : ℕ) → v < length w.rows → (slice_index_or w.marks v stuck ≡ loose) ⊎ (slice_index_or w.marks v stuck ≡ stuck)
  pub sound : (v : ℕ) → is_loose w.marks v ≡ true → IsLoosened w.rows v
  pub queued : (v : ℕ) → among v w.queue ≡ true → is_loose w.marks v ≡ true
  pub once : NoneTwice w.queue
  pub few : length w.queue ≤ loose_count w.marks

-- A job lacks what it needs, less its targets that are done; and it lacks some.
abbrev pub Lacks : Work → (done : ℕ → Bool) → ℕ → Type 0
Lacks w done v = (0 < slice_index w.lacking v) × (slice_index w.lacking v + count done (at w.rows v).targets ≡ (at w.rows v).need)

-- Each job that is not marked lacks what it needs, less its targets whose waiters have been looked at.
abbrev pub IsSaturated : Work → Type 0
IsSaturated w = (v : ℕ) → v < length w.rows → is_loose w.marks v ≡ false → Lacks w (is_processed w.marks w.queue) v

-- A job more is at hand, before those that are queued.
abbrev pub with_current : Work → ℕ → Work
with_current w job = record w { queue = job ∷ w.queue }

-- A marked job was taken from the queue, and its waiters are to be looked at.
pub record IsCurrent (w : Work) (job : ℕ) : Type 0 where
  pub saturated : IsSaturated (with_current w job)
  pub marked : is_loose w.marks job ≡ true
  pub apart : among job w.queue ≡ false

-- A job can be marked: it is not yet, and every closed set holds it.
pub record CanBeLoosened (w : Work) (job : ℕ) : Type 0 where
  pub is_job : job < length w.rows
  pub unmarked : is_loose w.marks job ≡ false
  pub loosened : IsLoosened w.rows job

-- A job more is marked and queued.
abbrev pub with_loose : Work → ℕ → Work
with_loose w job = record w { marks = slice_set w.marks job loose; queue = w.queue ++ job ∷ [] }

-- A job lacks one target less.
abbrev pub one_less : Work → ℕ → Work
one_less w job = record w { lacking = slice_set w.lacking job (slice_index w.lacking job - 1) }

-- A target of a job is done: unless it is marked, it lacks one less, and where it then lacks none it is marked.
abbrev pub lowered : Work → ℕ → Work
lowered w job =
    cond (is_loose w.marks job) w
    (cond (slice_index w.lacking job == 1) (with_loose (one_less w job) job) (one_less w job))

-- A job can be lowered: where it is not marked, it lacks some, and can be marked if that is the last.
pub record CanBeLowered (w : Work) (job : ℕ) : Type 0 where
  pub is_job : job < length w.rows
  pub lacks : is_loose w.marks job ≡ false → 0 < slice_index w.lacking job
  pub last : is_loose w.marks job ≡ false → slice_index w.lacking job ≡ 1 → CanBeLoosened w job

-- Every mark is 0 or 1, and 0 exactly for the loosened jobs.
pub record IsDecided (rows : List Waiting) (marks : List ℕ) : Type 0 where
  pub len : length rows ≤ length marks
  pub bits : (v : ℕ) → v < length rows → (slice_index_or marks v stuck ≡ loose) ⊎ (slice_index_or marks v stuck ≡ stuck)
  pub loosened : (v : ℕ) → v < length rows → (is_loose marks v ≡ true) ↔ IsLoosened rows v

-- None of the first n jobs is active.
abbrev pub AllWait : List Waiting → (n : ℕ) → Type 0
AllWait rows n = (v : ℕ) → v < n → 0 < (at rows v).need
