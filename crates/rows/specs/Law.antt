-- The row law: what every row obeys at all times.
use Rattle.std.specs.Prelude.{ℕ, ◌+◌, Bool, true, cond, not, ◌&&◌, List, [], ◌∷◌, length, ◌==◌, nat_le, nat_lt}
use Rattle.rows.specs.declared.plain.TheConstants.{TARGETS_MAX}
use Rattle.rows.specs.Waiting.{Waiting}
use Rattle.rows.specs.Changes.{target_fits}

-- Need 0 and no target, or a need from 1 to the number of targets, of which there are at most 16.
abbrev pub counts_fit : (need count : ℕ) → Bool
counts_fit need count = nat_le count TARGETS_MAX && cond (need == 0) (count == 0) (nat_le need count)

-- Each target is above the one before it; the first is not below `low`.
abbrev pub rising : (low : ℕ) → List ℕ → Bool
rising low [] = true
rising low (t ∷ ts) = nat_le low t && rising (t + 1) ts

-- Each target fits, and is above the one before it.
abbrev pub targets_fit : (n job low : ℕ) → List ℕ → Bool
targets_fit n job low [] = true
targets_fit n job low (t ∷ ts) = target_fits n job low t && targets_fit n job (t + 1) ts

-- The law of the row of `job`, one of n jobs.
abbrev pub row_fits : (n job : ℕ) → Waiting → Bool
row_fits n job w = counts_fit w.need (length w.targets) && targets_fit n job 0 w.targets
