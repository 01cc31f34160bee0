-- A record is taken into a place that the caller lends, and the answer is yes or no.
use Rattle.std.specs.Prelude.{◌≡◌, ◌<◌, ◌≤◌, ℕ, Bool, true, false, [], length}
use Rattle.std.specs.List.{insert}
use Rattle.containers.specs.Held.{Held}

module _ {S T : Type 0} (held : S → Held T) (gives : S → T → S → Type 0) where
  -- Yes: the record that comes, as `gives` tells, is in the lent place, and the container is what that leaves. No: none is held,
  -- and neither the container nor the lent place has changed.
  abbrev pub TookInto : (answer : Bool) → (before after : S) → (old new : T) → Type 0
  TookInto true before after old new = gives before new after × ((held after).capacity ≡ (held before).capacity)
  TookInto false before after old new = ((held before).items ≡ []) × (after ≡ before) × (new ≡ old)

-- The same from a place of the taker's choice. Yes: with the record back there, all are there again. No: that place is past the last,
-- and neither the container nor the lent place has changed.
abbrev pub TookAt : {T : Type 0} → (place : ℕ) → (answer : Bool) → (before after : Held T) → (old new : T) → Type 0
TookAt place true before after old new =
    (place < length before.items) × (before.items ≡ insert after.items place new) × (after.capacity ≡ before.capacity)
TookAt place false before after old new = (length before.items ≤ place) × (after ≡ before) × (new ≡ old)
