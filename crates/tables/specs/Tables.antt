-- What a table tells of its rows.
use Rattle.std.specs.Prelude.{◌≡◌, ℕ, ◌≤◌, Bool, true, List, length, Option, nat_le}
use Rattle.tables.specs.declared.table.TheConstants.{JOBS_MAX}
use Rattle.std.specs.List.{find}
use Rattle.rows.specs.Waiting.{Waiting}
use Rattle.rows.specs.Law.{row_fits}
use Rattle.rows.specs.Obeys.{rows_obey}

-- The rows of a table obey the row law.
abbrev pub lawful : List Waiting → Bool
lawful rows = rows_obey (row_fits (length rows)) 0 rows

-- What every table promises of its rows: there are at most 256, and they obey the row law.
pub record IsTable (rows : List Waiting) : Type 0 where
  pub few : length rows ≤ JOBS_MAX
  pub lawful : lawful rows ≡ true

-- The first number of a list that is not below `from`.
abbrev pub first_from : (from : ℕ) → List ℕ → Option ℕ
first_from from xs = find (nat_le from) xs
