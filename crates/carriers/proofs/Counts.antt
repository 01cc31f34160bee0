-- What a put into a container and a take out of it mean for a carrier made of that container and a count.
use Rattle.std.proofs.Common.{◌≡◌, ℕ, ◌+◌, ◌%◌, ◌^◌, true, [], ◌∷◌, length, Some, None, sym, refl, ◌∙◌, add-one, arith}
use Rattle.std.specs.List.Sorted.{IsPermutation}
use Rattle.std.proofs.lemmas.Bool.Decides.{nat_tests}
use Rattle.std.proofs.lemmas.List.{length-append}
use Rattle.std.proofs.lemmas.List.Sorted.{IsPermutation-append_comm, length_permutation}
use Rattle.containers.specs.Held.{Held, has_room, with_last}
use Rattle.carriers.specs.Meaning.{Put, Took}
use Rattle.carriers.specs.CountedCarriers.{carried_from}
use Rattle.carriers.specs.declared.message.Message.{Message}

-- A message put last waits beside the others.
pub put_last : (before : Held Message) (handed : ℕ) (message : Message)
    → true ≡ has_room before
    → Put (carried_from before handed) (carried_from (with_last before message) handed) message None
put_last before handed message room = record {
  test = rw (← room) refl;
  waiting = IsPermutation-append_comm (message ∷ []) before.items;
  len = length-append before.items (message ∷ []);
  capacity = refl;
  handed = refl;
}

-- A message that leaves the others is taken.
pub took_one : (before after : Held Message) (handed : ℕ) (message : Message)
    → IsPermutation (message ∷ after.items) before.items
    → after.capacity ≡ before.capacity
    → Took (carried_from before handed) (carried_from after ((handed + 1) % 2 ^ 32)) (Some message)
took_one before after handed message loses_none capacity =
    let one_fewer = length_permutation (message ∷ after.items) before.items loses_none in
    record { test = rw one_fewer (grind (arith, nat_tests)); waiting = loses_none; len = add-one (length after.items) ∙ sym one_fewer; capacity = capacity; handed = refl }
