-- How the trail and the groups' starts stand for what each group would put back.
use Rattle.std.specs.Prelude.{ℕ, Bool, ◌&&◌, List, [], ◌∷◌, take, drop, ◌==◌, nat_le}

-- The trail, cut at the groups' starts, the innermost group first.
abbrev pub parts : {X : Type 0} → List X → List ℕ → List (List X)
parts trail [] = []
parts trail (s ∷ ss) = drop s trail ∷ parts (take s trail) ss

-- No group begins after the end of the trail or after a group inside it; and no record lies outside of groups.
abbrev pub tidy : (len : ℕ) → List ℕ → Bool
tidy len [] = len == 0
tidy len (s ∷ ss) = nat_le s len && tidy s ss
