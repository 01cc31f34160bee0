-- Several puts that were all accepted.
use Rattle.std.proofs.Common.{◌≡◌, ℕ, ◌+◌, ◌<◌, List, [], ◌∷◌, ◌++◌, length, Some, None, Ok, Err, Option, Result, sym, refl, ◌∙◌, subst}
use Rattle.std.specs.List.Sorted.{IsPermutation}
use Rattle.std.proofs.lemmas.List.{append_assoc, append-nil, length-append}
use Rattle.std.proofs.lemmas.List.Sorted.{length_permutation, IsPermutation-refl, IsPermutation-trans, IsPermutation-to_front, IsPermutation-append_left}
use Rattle.std.proofs.lemmas.Bool.{lt-ltb}
use Rattle.carriers.specs.declared.carrier.CarrierFull.{CarrierFull}
use Rattle.carriers.specs.Faults.{refusal_number}
use Rattle.carriers.specs.Meaning.{Put, Sent}
use Rattle.carriers.specs.Carriers.{Carried}
use Rattle.carriers.specs.declared.message.Message.{Message}

-- No put changes nothing.
pub sent_none : (before : Carried) → Sent before before []
sent_none before =
    let waiting = before.waiting in
    record { waiting = subst (λ (xs : List Message). IsPermutation xs waiting) (sym (append-nil waiting)) (IsPermutation-refl waiting); capacity = refl; handed = refl }

-- A put for which there is room is accepted.
pub sent_one : (before after : Carried) (message : Message) (r : Result (Unit {0}) CarrierFull)
    → length before.waiting < before.capacity
    → Put before after message (refusal_number r)
    → Sent before after (message ∷ [])
sent_one before after message (Ok u) room put = record {
  waiting = IsPermutation-trans (before.waiting ++ message ∷ []) (message ∷ before.waiting) after.waiting
      (IsPermutation-to_front before.waiting message) put.waiting;
  capacity = put.capacity;
  handed = put.handed;
}
sent_one before after message (Err full) room put =
    let refused : ◌≡◌ {A = Option ℕ} (Some 12) None = rw (lt-ltb (length before.waiting) before.capacity room) at put.test in
    absurd (cc refused)

-- Some puts, and then some more.
pub sent_more : (before between after : Carried) (first then : List Message)
    → Sent before between first
    → Sent between after then
    → Sent before after (first ++ then)
sent_more before between after first then a b = record {
  waiting = IsPermutation-trans (before.waiting ++ (first ++ then)) (between.waiting ++ then) after.waiting
      (subst (λ (xs : List Message). IsPermutation xs (between.waiting ++ then)) (append_assoc before.waiting first then)
      (IsPermutation-append_left then (before.waiting ++ first) between.waiting a.waiting))
      b.waiting;
  capacity = b.capacity ∙ a.capacity;
  handed = b.handed ∙ a.handed;
}

-- Each put is one more message that waits.
pub length-sent : (before after : Carried) (messages : List Message)
    → Sent before after messages
    → length after.waiting ≡ length before.waiting + length messages
length-sent before after messages sent =
    length_permutation (before.waiting ++ messages) after.waiting sent.waiting
    ∙ length-append before.waiting messages
