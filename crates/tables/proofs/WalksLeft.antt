-- Walks that show what they have left.
use Rattle.std.proofs.Common.{List, Some, None, Option, length, ap, rules}
use Rattle.std.specs.Iterator.{YieldsFirst, MakesProgress, item_count}

-- An item leaves less.
pub first_makes_progress : {S A : Type 0} (rest : S → List A) (s : S) (r : Option A) (t : S) → YieldsFirst rest s r t → MakesProgress (λ _. Unit {0}) (item_count rest) s r t
first_makes_progress rest s None t h = search rules
first_makes_progress rest s (Some x) t h = let shorter = ap length h in search rules
