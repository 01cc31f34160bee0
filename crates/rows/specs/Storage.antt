-- How a row is stored: its need, the number of its targets, and sixteen places.
use Rattle.std.specs.Prelude.{ℕ, Bool, ◌&&◌, List, length, take, drop, ◌==◌, nat_le}
use Rattle.std.specs.List.{list_all}
use Rattle.rows.specs.Waiting.{Waiting}
use Rattle.rows.specs.Law.{counts_fit, rising, row_fits}
use Rattle.rows.specs.declared.plain.TheConstants.{TARGETS_MAX}

-- The part of the law that needs no n and no job.
abbrev pub shaped : Waiting → Bool
shaped w = counts_fit w.need (length w.targets) && rising 0 w.targets

-- What is waited for, where the first `count` of the places are in use.
abbrev pub stored : (need count : ℕ) → List ℕ → Waiting
stored need count places = record { need = need; targets = take count places }

-- Every place is 0.
abbrev pub all_zero : List ℕ → Bool
all_zero places = list_all (λ t. t == 0) places

-- The places of a stored row: there are 16, the first `count` of them are in use, and the unused ones are 0.
abbrev pub places_fit : (count : ℕ) → List ℕ → Bool
places_fit count places = length places == TARGETS_MAX && (nat_le count TARGETS_MAX && all_zero (drop count places))

-- A row as it is stored is sound: its places fit, and what it says is shaped.
abbrev pub sound : (need count : ℕ) → List ℕ → Bool
sound need count places = places_fit count places && shaped (stored need count places)

-- The law of the stored row of `job`, one of n jobs: its places fit, and what it says obeys the row law.
abbrev pub stored_fits : (n job need count : ℕ) → List ℕ → Bool
stored_fits n job need count places = places_fit count places && row_fits n job (stored need count places)
