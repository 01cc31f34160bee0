-- What a put and a take do to a carrier.
use Rattle.std.specs.Prelude.{◌≡◌, ℕ, ◌+◌, ◌%◌, ◌^◌, cond, Some, None, Option, is_some, is_none, List, ◌∷◌, ◌++◌, length, MatchOption, nat_lt}
use Rattle.std.specs.List.Sorted.{IsPermutation}
use Rattle.carriers.specs.declared.message.Message.{Message}
use Rattle.carriers.specs.Carriers.{Carried}

-- A put of a message, and the number by which it is refused, if it is.
pub record Put (before after : Carried) (message : Message) (refused : Option ℕ) : Type 0 where
  -- it is refused, with 12, exactly when the number of those that wait has reached the capacity
  pub test : refused ≡ cond (nat_lt (length before.waiting) before.capacity) None (Some 12)
  -- accepted, the message waits beside those that waited, in any order; refused, all is as before
  pub waiting : MatchOption refused (IsPermutation (message ∷ before.waiting) after.waiting) (λ _. after ≡ before)
  -- one more waits where it was accepted
  pub len : length after.waiting ≡ length before.waiting + cond (is_none refused) 1 0
  -- nothing else changes
  pub capacity : after.capacity ≡ before.capacity
  pub handed : after.handed ≡ before.handed

-- A take, and the message that came, if one did.
pub record Took (before after : Carried) (came : Option Message) : Type 0 where
  -- none comes exactly when nothing waits
  pub test : is_some came ≡ nat_lt 0 (length before.waiting)
  -- those that waited are the one that came and those that wait, in any order; where none came, all is as before
  pub waiting : MatchOption came (after ≡ before) (λ message. IsPermutation (message ∷ after.waiting) before.waiting)
  -- one fewer waits where one came
  pub len : length after.waiting + cond (is_some came) 1 0 ≡ length before.waiting
  -- the capacity never changes
  pub capacity : after.capacity ≡ before.capacity
  -- the one that came is counted
  pub handed : after.handed ≡ cond (is_some came) ((before.handed + 1) % 2 ^ 32) before.handed

-- Several puts, one after the other, that were all accepted.
pub record Sent (before after : Carried) (messages : List Message) : Type 0 where
  -- the messages wait beside those that waited, in any order
  pub waiting : IsPermutation (before.waiting ++ messages) after.waiting
  -- nothing else changes
  pub capacity : after.capacity ≡ before.capacity
  pub handed : after.handed ≡ before.handed
