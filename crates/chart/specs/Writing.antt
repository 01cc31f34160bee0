-- Rows written as a chart, and what comes of reading them.
use Rattle.std.specs.Prelude.{◌≡◌, ℕ, cond, List, ◌∷◌, length, None, Ok, Err, Result, ◌==◌}
use Rattle.std.specs.List.{flat_map}
use Rattle.rows.specs.Waiting.{Waiting}
use Rattle.rows.specs.StoredRows.{places_of}
use Rattle.chart.specs.Check.{checked, chart_rows}
use Rattle.chart.specs.Faults.{Refusal, refused}

-- The bytes of a job: its need, its number of targets, the targets, and 0 in each target byte that is not in use.
abbrev pub bytes_of_row : Waiting → List ℕ
bytes_of_row w = w.need ∷ length w.targets ∷ places_of w.targets

-- The bytes of all jobs, in the order of the jobs.
abbrev pub bytes_of_rows : List Waiting → List ℕ
bytes_of_rows rows = flat_map bytes_of_row rows

-- The check counts the jobs. Where there are none there are no bytes, which it refuses with 18.
abbrev pub counted : (jobs : ℕ) → Result ℕ Refusal
counted jobs = cond (jobs == 0) (Err (refused 18 None)) (Ok jobs)

-- Checked and read, the bytes give the rows again.
pub record ReadsBack (rows : List Waiting) (bytes : List ℕ) : Type 0 where
  pub check : checked bytes ≡ counted (length rows)
  pub read : chart_rows bytes ≡ rows
