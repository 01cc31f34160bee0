-- What the check of a chart answers.
use Rattle.std.specs.Prelude.{ℕ, ◌%◌, Bool, cond, not, ◌||◌, List, [], length, map, position, Some, None, Ok, Err, Option, Result, ◌==◌, nat_lt}
use Rattle.std.specs.List.{enumerate_from}
use Rattle.rows.specs.Waiting.{Waiting}
use Rattle.rows.specs.Storage.{stored_fits}
use Rattle.chart.specs.Faults.{Refusal, refused}
use Rattle.chart.specs.Layout.{need_byte, count_byte, target_bytes, row_of, job_count, bytes_of_jobs}
use Rattle.chart.specs.declared.bytes.TheConstants.{CHART_MAX, ROW_BYTES}

-- No byte, a part of a row, or more than 256 rows.
abbrev pub wrong_length : ℕ → Bool
wrong_length len = len == 0 || (not (len % ROW_BYTES == 0) || nat_lt CHART_MAX len)

-- The bytes of `job`, one of n jobs, are right: they obey the law of a stored row, by which the target bytes that are not in use are 0.
abbrev pub row_right : (n job : ℕ) → List ℕ → Bool
row_right n job bytes = stored_fits n job (need_byte bytes) (count_byte bytes) (target_bytes bytes)

-- The first job whose row is not right.
abbrev pub first_wrong_row : List (List ℕ) → Option ℕ
first_wrong_row rows = position (λ r. not (row_right (length rows) r.0 r.1)) (enumerate_from 0 rows)

-- So many jobs; or 19, with the job of the first wrong row.
abbrev pub counted_or_wrong : (n : ℕ) → Option ℕ → Result ℕ Refusal
counted_or_wrong n None = Ok n
counted_or_wrong n (Some job) = Err (refused 19 (Some job))

-- The number of jobs, or the first reason against the bytes; 18 for a wrong length.
abbrev pub checked : List ℕ → Result ℕ Refusal
checked bytes = cond (wrong_length (length bytes)) (Err (refused 18 None)) (counted_or_wrong (job_count bytes) (first_wrong_row (bytes_of_jobs bytes)))

-- The rows of a chart; refused bytes have none.
abbrev pub rows_of_checked : Result ℕ Refusal → List ℕ → List Waiting
rows_of_checked (Ok n) bytes = map row_of (bytes_of_jobs bytes)
rows_of_checked (Err e) bytes = []

-- The rows that lie in the bytes of a chart.
abbrev pub chart_rows : List ℕ → List Waiting
chart_rows bytes = rows_of_checked (checked bytes) bytes
