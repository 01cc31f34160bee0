-- A law of rows, whatever the rows are and whatever the law.
use Rattle.std.specs.Prelude.{ℕ, Bool, List}
use Rattle.std.specs.List.{enumerate_from, list_all}

-- Every row obeys the law of its job; `job` is the job of the first.
abbrev pub rows_obey : {P : Type 0} → (law : ℕ → P → Bool) → (job : ℕ) → List P → Bool
rows_obey law job rows = list_all (λ r. law r.0 r.1) (enumerate_from job rows)
