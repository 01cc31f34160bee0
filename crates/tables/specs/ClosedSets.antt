-- Closed sets of jobs, and the jobs that every one of them holds.
use Rattle.std.specs.Prelude.{◌≡◌, ℕ, ◌+◌, ◌<◌, ◌≤◌, Bool, true, cond, ◌↔◌, List, [], ◌∷◌, length}
use Rattle.rows.specs.Waiting.{Waiting, at}
use Rattle.tables.specs.Grants.{CanBeFreed}

-- How many of some jobs are in the set S.
abbrev pub count : (S : ℕ → Bool) → List ℕ → ℕ
count S [] = 0
count S (t ∷ ts) = cond (S t) 1 0 + count S ts

-- A set is closed when it holds every active job, and every blocked job with at least as many targets in the set as it needs.
pub record IsClosed (rows : List Waiting) (S : ℕ → Bool) : Type 0 where
  pub active : (v : ℕ) → v < length rows → (at rows v).need ≡ 0 → S v ≡ true
  pub blocked : (v : ℕ) → v < length rows → 0 < (at rows v).need → (at rows v).need ≤ count S (at rows v).targets → S v ≡ true

-- A job is loosened when every closed set holds it: the loosened jobs are the smallest closed set.
abbrev pub IsLoosened : List Waiting → ℕ → Type 0
IsLoosened rows v = (S : ℕ → Bool) → IsClosed rows S → S v ≡ true

-- The loosened jobs are those that lawful grants can make active.
abbrev pub LoosenedCanBeFreed : Type 0
LoosenedCanBeFreed = (rows : List Waiting) (v : ℕ) → v < length rows → IsLoosened rows v ↔ CanBeFreed rows v
