-- What one job waits for, and the rows of all jobs.
use Rattle.std.specs.Prelude.{ℕ, Bool, List, [], ◌==◌, slice_index_or}
use Rattle.std.specs.List.{list_any}

-- A row: how many of its targets a job still needs, and the targets, jobs that it waits for.
pub record Waiting : Type 0 where
  pub need : ℕ
  pub targets : List ℕ

-- The row of an active job: it needs none and waits for none.
abbrev pub idle : Waiting
idle = record { need = 0; targets = [] }

-- The row of a job. Beyond the last job every row is idle.
abbrev pub at : List Waiting → ℕ → Waiting
at rows job = slice_index_or rows job idle

-- A job is active when its need is 0; every other job is blocked.
abbrev pub is_active : List Waiting → ℕ → Bool
is_active rows job = (at rows job).need == 0

-- Whether a job is among the targets.
abbrev pub among : ℕ → List ℕ → Bool
among u ts = list_any (λ t. t == u) ts
