-- How rows lie in bytes.
use Rattle.std.specs.Prelude.{ℕ, ◌/◌, List, length, drop, slice_index}
use Rattle.chart.specs.declared.bytes.TheConstants.{ROW_BYTES}
use Rattle.std.specs.Simd.{first_chunks}
use Rattle.rows.specs.Waiting.{Waiting}
use Rattle.rows.specs.Storage.{stored}

-- The need of a job is its first byte.
abbrev pub need_byte : List ℕ → ℕ
need_byte bytes = slice_index bytes 0

-- Its number of targets is its second byte.
abbrev pub count_byte : List ℕ → ℕ
count_byte bytes = slice_index bytes 1

-- Its target bytes are those behind.
abbrev pub target_bytes : List ℕ → List ℕ
target_bytes bytes = drop 2 bytes

-- The row that a job's bytes say: as many of the target bytes are its targets as its number says.
abbrev pub row_of : List ℕ → Waiting
row_of bytes = stored (need_byte bytes) (count_byte bytes) (target_bytes bytes)

-- How many jobs have their bytes there: as many as there are whole rows.
abbrev pub job_count : List ℕ → ℕ
job_count bytes = length bytes / ROW_BYTES

-- The bytes of each of them.
abbrev pub bytes_of_jobs : List ℕ → List (List ℕ)
bytes_of_jobs bytes = first_chunks ROW_BYTES (job_count bytes) bytes
