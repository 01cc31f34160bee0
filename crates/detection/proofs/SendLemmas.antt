-- Sending a message for each number of a list, one after the other.
use Rattle.std.proofs.Common.{◌≡◌, ℕ, ◌+◌, ◌<◌, true, eqb, List, [], ◌∷◌, ◌++◌, map, length, refl, sym, ap, ◌∙◌, subst, arith}
use Rattle.std.proofs.lemmas.List.{map_push, length-map, length-append, length_push, append_assoc}
use Rattle.std.proofs.lemmas.Bool.{eq-eqb, or_right}
use Rattle.rows.specs.Waiting.{among}
use Rattle.carriers.specs.Meaning.{Sent}
use Rattle.carriers.specs.Carriers.{Carried}
use Rattle.carriers.specs.declared.message.Message.{Message}
use Rattle.carriers.proofs.Sends.{sent_none, sent_more, length-sent}
use Rattle.detection.specs.Preconditions.{RoomFor}

-- Some numbers are left of a list, and the messages of those before them, so many, were sent.
pub record SentFront (f : ℕ → Message) (xs left : List ℕ) (count : ℕ) (before after : Carried) : Type 0 where
  pub front : List ℕ
  pub all : front ++ left ≡ xs
  pub counted : count ≡ length front
  pub sent : Sent before after (map f front)

pub none_is_sent_at_first : {f : ℕ → Message} {xs left : List ℕ} {before : Carried} → left ≡ xs → SentFront f xs left 0 before before
none_is_sent_at_first {before = before} e = record { front = []; all = e; counted = refl; sent = sent_none before }

-- A number at any place is among the numbers.
among_after_a_front : (front rest : List ℕ) (x : ℕ) → among x (front ++ x ∷ rest) ≡ true
among_after_a_front [] rest x = rw (eq-eqb x x refl) refl
among_after_a_front (y ∷ front) rest x = or_right (eqb y x) (among x (front ++ x ∷ rest)) (among_after_a_front front rest x)

module _ {f : ℕ → Message} {xs left : List ℕ} {count : ℕ} {before after : Carried} (walked : SentFront f xs left count before after) where
  length_sent_front : length after.waiting ≡ length before.waiting + count
  length_sent_front =
      length-sent before after (map f walked.front) walked.sent
      ∙ ap (λ (n : ℕ). length before.waiting + n) (length-map walked.front f ∙ sym walked.counted)

  -- The next number is within the list. It has room for its message, which is then sent as well.
  module _ {x : ℕ} {rest : List ℕ} (next : left ≡ x ∷ rest) where
    pub next_is_within : count < length xs
    next_is_within = omega (arith, walked.counted, ap length walked.all, length-append walked.front left, ap length next)

    pub next_is_among : among x xs ≡ true
    next_is_among =
        subst (λ (ns : List ℕ). among x ns ≡ true) (ap (λ (ns : List ℕ). walked.front ++ ns) (sym next) ∙ walked.all) (among_after_a_front walked.front rest x)

    pub next_has_room : RoomFor before (map f xs) → RoomFor after (f x ∷ [])
    next_has_room room = omega (arith, next_is_within, length_sent_front, length-map xs f, walked.sent.capacity)

    pub next_is_sent_too : {last : Carried} → Sent after last (f x ∷ []) → SentFront f xs rest (count + 1) before last
    next_is_sent_too {last} sent = record {
      front = walked.front ++ x ∷ [];
      all = append_assoc walked.front (x ∷ []) rest ∙ ap (λ (ns : List ℕ). walked.front ++ ns) (sym next) ∙ walked.all;
      counted = omega (arith, walked.counted, length_push walked.front x);
      sent = rw map_push (sent_more before after last (map f walked.front) (f x ∷ []) walked.sent sent);
    }
    -- Where no number is left, all were sent.
