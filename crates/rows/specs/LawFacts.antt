-- The row law as the five facts of the rules.
use Rattle.std.specs.Prelude.{◌≡◌, ℕ, ◌+◌, ◌<◌, ◌≤◌, true, false, ◌⊎◌, ◌↔◌, [], length, slice_index}
use Rattle.rows.specs.Waiting.{Waiting, among}
use Rattle.rows.specs.Law.{row_fits}
use Rattle.rows.specs.declared.plain.TheConstants.{TARGETS_MAX}

-- What the row of `job`, one of n jobs, obeys at all times.
pub record IsLawfulRow (n job : ℕ) (w : Waiting) : Type 0 where
  -- the need is 0 and there is no target, or the need is at least 1 and at most the number of targets
  pub need : ((w.need ≡ 0) × (w.targets ≡ [])) ⊎ ((1 ≤ w.need) × (w.need ≤ length w.targets))
  -- there are at most sixteen targets
  pub few : length w.targets ≤ TARGETS_MAX
  -- each target is below n
  pub below : (u : ℕ) → among u w.targets ≡ true → u < n
  -- each target is greater than the one before it
  pub rising : (place : ℕ) → place + 1 < length w.targets → slice_index w.targets place < slice_index w.targets (place + 1)
  -- the job itself is not among its targets
  pub other : among job w.targets ≡ false

-- A row passes the test of the law exactly if these five hold.
abbrev pub LawIsTested : Type 0
LawIsTested = (n job : ℕ) (w : Waiting) → (row_fits n job w ≡ true) ↔ IsLawfulRow n job w
