-- The orders in which records come: from which end of those held; and the lemmas that no other is lost.
use Rattle.std.proofs.Common.{◌≡◌, [], ◌∷◌, ◌++◌}
use Rattle.std.specs.List.Sorted.{IsPermutation}
use Rattle.std.proofs.lemmas.List.Sorted.{IsPermutation-refl, IsPermutation-append_comm}
use Rattle.containers.specs.Held.{Held}

-- The record put last comes first, as from a stack.
abbrev pub gives_newest : {T : Type 0} → Held T → T → Held T → Type 0
gives_newest before x after = before.items ≡ after.items ++ x ∷ []

-- The record put first comes first, as from a queue.
abbrev pub gives_oldest : {T : Type 0} → Held T → T → Held T → Type 0
gives_oldest before x after = before.items ≡ x ∷ after.items

-- Where the record put last comes, those held are it and those that are left.
pub last_loses_none : {T : Type 0} (h : Held T) (x : T) (left : Held T)
    → gives_newest h x left
    → IsPermutation (x ∷ left.items) h.items
last_loses_none h x left e = rw e (IsPermutation-append_comm (x ∷ []) left.items)

-- Where the record put first comes, likewise.
pub first_loses_none : {T : Type 0} (h : Held T) (x : T) (left : Held T)
    → gives_oldest h x left
    → IsPermutation (x ∷ left.items) h.items
first_loses_none h x left e = rw e (IsPermutation-refl (x ∷ left.items))
