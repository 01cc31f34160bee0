-- Targets by their places.
use Rattle.std.specs.Prelude.{◌≡◌, ℕ, ◌<◌, true, false, List, length, Some, None, Option, slice_get}
use Rattle.std.specs.List.{remove}
use Rattle.rows.specs.Waiting.{among}
use Rattle.rows.specs.Changes.{without}

-- The target at a place, counted from 0; past the last, none.
abbrev pub target_at : List ℕ → ℕ → Option ℕ
target_at ts place = slice_get ts place

-- The place of u, which is what `without` takes out; or none, where u is not among the targets.
abbrev pub IsPlaceOf : ℕ → List ℕ → Option ℕ → Type 0
IsPlaceOf u ts None = among u ts ≡ false
IsPlaceOf u ts (Some place) = (among u ts ≡ true) × (place < length ts) × (remove ts place ≡ without u ts)
