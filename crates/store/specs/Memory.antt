-- How the memory of a book stands for its state.
use Rattle.std.specs.Prelude.{ℕ, ◌≤◌}
use Rattle.rows.specs.declared.plain.PlainRow.{PlainRow}
use Rattle.rows.specs.StoredRows.{plain_fits}
use Rattle.tables.specs.declared.table.TheConstants.{JOBS_MAX}
use Rattle.groups.specs.Obeys.{Obeys}
use Rattle.groups.specs.State.{State}

-- The rows of n jobs, as they are stored: every row and every undo record obeys the row law.
pub record IsLawful (n : ℕ) (s : State PlainRow) : Type 0 where
  pub few : n ≤ JOBS_MAX
  pub obeys : Obeys (plain_fits n) s
