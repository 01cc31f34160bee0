-- The order that a list of picks gives.
use Rattle.std.specs.Prelude.{◌≡◌, ℕ, ◌%◌, List, [], ◌∷◌, length, drop}
use Rattle.std.specs.List.{insert}
use Rattle.std.specs.List.Sorted.{IsPermutation}
use Rattle.std.proofs.lemmas.List.Sorted.{IsPermutation-insert}
use Rattle.carriers.specs.declared.message.Message.{Message}
use Rattle.carriers.specs.declared.picked.Picked.{Picked}

-- The place of the message that comes, the oldest being at place 0: the first of the picks that are left, modulo the number
-- of messages that wait; when no pick is left, place 0.
abbrev pub picked_place : List ℕ → ℕ → ℕ
picked_place [] waiting = 0
picked_place (pick ∷ picks) waiting = pick % waiting

-- No pick is used up.
abbrev pub same_picks : (before after : Picked) → Type 0
same_picks before after = after.picks.now ≡ before.picks.now

-- The message goes from the picked place, and the pick is used up.
abbrev pub gives_picked : Picked → Message → Picked → Type 0
gives_picked before x after =
    (before.messages.items ≡ insert after.messages.items (picked_place before.picks.now (length before.messages.items)) x)
    × (after.picks.now ≡ drop 1 before.picks.now)

-- So no other message goes.
pub picked_loses_none : (before : Picked) (x : Message) (after : Picked)
    → gives_picked before x after
    → IsPermutation (x ∷ after.messages.items) before.messages.items
picked_loses_none before x after gives =
    rw gives.0 (IsPermutation-insert after.messages.items (picked_place before.picks.now (length before.messages.items)) x)
