-- The limits of a run, for each wait.
use Rattle.std.specs.Prelude.{ℕ}

-- A run has at most so many deliveries for each wait.
abbrev pub deliveries_per_wait : ℕ
deliveries_per_wait = 4

-- So many messages for each wait are on their way at most. A carrier that has room for these refuses none of a run.
abbrev pub capacity_per_wait : ℕ
capacity_per_wait = 2
