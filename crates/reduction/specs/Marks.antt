-- The bytes that tell of jobs whether they are loosened.
use Rattle.std.specs.Prelude.{ℕ, Bool, List, ◌==◌, slice_index_or}

-- The byte of a loosened job.
abbrev pub loose : ℕ
loose = 0

-- The byte of any other job.
abbrev pub stuck : ℕ
stuck = 1

-- The jobs whose bytes say that they are loosened. Beyond the bytes there is none.
abbrev pub is_loose : List ℕ → ℕ → Bool
is_loose bytes v = slice_index_or bytes v stuck == loose
