-- What is left to walk through.
use Rattle.std.specs.Prelude.{ℕ, List, filter, slice_range, nat_le}
use Rattle.rows.specs.Waiting.{Waiting, at}
use Rattle.tables.specs.declared.walks.Targets.{Targets}
use Rattle.tables.specs.declared.walks.Waiters.{Waiters}
use Rattle.tables.specs.Waits.{waiters}

-- The targets of a job at the places that are left; `rows` tells the rows of the table.
abbrev pub targets_left : {T : Type 0} → (T → List Waiting) → Targets T → List ℕ
targets_left rows t = slice_range (at (rows t.table.now) t.job).targets t.places.start t.places.end

-- Who waits for a job, from a number on.
abbrev pub waiters_left : {T : Type 0} → (T → List Waiting) → Waiters T → List ℕ
waiters_left rows w = filter (λ v. nat_le w.from v) (waiters (rows w.table.now) w.job)
