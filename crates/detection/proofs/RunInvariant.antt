-- How far a detection has come, from the initiator's spread on, as facts of plain values.
use Rattle.std.proofs.Common.{◌≡◌, ℕ, ◌+◌, ◌-◌, ◌*◌, ◌%◌, ◌^◌, ◌<◌, ◌≤◌, List, [], ◌∷◌, ◌++◌, length, get_or, set, replicate, refl, ap, ◌∙◌, subst, Some, arith}
use Rattle.std.specs.List.Sorted.{IsPermutation}
use Rattle.std.proofs.lemmas.List.{get_or-replicate, length-append, length_push, nil_from_length}
use Rattle.std.proofs.lemmas.List.Sorted.{IsPermutation-refl, IsPermutation-sym}
use Rattle.std.proofs.ByRecursion.{all_shuffled}
use Rattle.carriers.specs.Meaning.{Took, Sent}
use Rattle.carriers.specs.Carriers.{Carried}
use Rattle.carriers.specs.declared.message.Message.{Message}
use Rattle.rows.specs.Waiting.{Waiting}
use Rattle.tables.specs.Tables.{IsTable}
use Rattle.tables.specs.Waits.{waits}
use Rattle.exchange.specs.Bounds.{IsExpected, IsBounded}
use Rattle.carriers.specs.Messages.{receiver}
use Rattle.exchange.specs.Records.{blank}
use Rattle.exchange.specs.Rules.{spread}
use Rattle.exchange.specs.Runs.{RunState, reaction, stays, Exchange}
use Rattle.exchange.specs.declared.record.RunRecord.{RunRecord}
use Rattle.exchange.proofs.BoundLemmas.{runs_are_bounded}
use Rattle.detection.specs.Preconditions.{RoomFor}
use Rattle.exchange.proofs.Termination.{exchange_goes_on}
use Rattle.tables.proofs.Sizes.{waits_are_few}

abbrev pub state : List RunRecord → List Message → RunState
state records waiting = record { records = records; waiting = waiting }

-- The records and the carrier are those of a run. As it began, the carrier had room for so many, and had handed out `before`.
pub record Going (rows : List Waiting) (initiator room before : ℕ) (records : List RunRecord) (now : Carried) : Type 0 where
  pub order : List Message
  pub run : Exchange rows initiator order (state records now.waiting)
  pub capacity : now.capacity ≡ room
  pub handed : now.handed ≡ (before + length order) % 2 ^ 32

-- By how much a count modulo 2 ^ 32 has grown.
abbrev pub growth : (before now : ℕ) → ℕ
growth before now = (now + (2 ^ 32 - before)) % 2 ^ 32

growth_is_what_was_added : (before now added : ℕ) → before < 2 ^ 32 → added < 2 ^ 32 → now ≡ (before + added) % 2 ^ 32 → growth before now ≡ added
growth_is_what_was_added before now added b a e = omega arith

module _ {rows : List Waiting} {initiator : ℕ} (tabled : IsTable rows) (job : initiator < length rows) where
  -- The start: every record is blank, and nothing waits.
  module _ {records : List RunRecord} (blanks : records ≡ replicate (length rows) blank) (first : Carried) (empty : length first.waiting ≡ 0) where
    own_record_is_blank : get_or records initiator blank ≡ blank
    own_record_is_blank =
        ap (λ (rs : List RunRecord). get_or rs initiator blank) blanks ∙ get_or-replicate (length rows) initiator blank blank job

    pub spread_has_room : 2 * waits rows ≤ first.capacity → RoomFor first (spread rows initiator (get_or records initiator blank)).puts
    spread_has_room wide =
        let act = spread rows initiator blank in
        let begun = state (set (replicate (length rows) blank) initiator act.becomes) act.puts in
        let run : Exchange rows initiator [] begun =
        record { first = begun; begins = record { records = refl; waiting = IsPermutation-refl act.puts }; run = stays } in
        omega (
          arith,
          (runs_are_bounded rows tabled.lawful initiator job [] begun run).messages,
          ap (λ (r : RunRecord). length (spread rows initiator r).puts) own_record_is_blank,
        )

    pub run_begins : {own : RunRecord} {after : Carried} {before : ℕ} → own ≡ (spread rows initiator (get_or records initiator blank)).becomes
        → Sent first after (spread rows initiator (get_or records initiator blank)).puts → before ≡ first.handed → before < 2 ^ 32
        → Going rows initiator after.capacity before (set records initiator own) after
    run_begins {own} {after} {before} becomes sent same fits =
        let none = nil_from_length first.waiting empty in
        record {
          order = [];
          run = record {
            first = state (set records initiator own) after.waiting;
            begins = record {
              records = ap (λ (rs : List RunRecord). set rs initiator own) blanks
                  ∙ ap (set (replicate (length rows) blank) initiator) (becomes ∙ ap (λ (r : RunRecord). (spread rows initiator r).becomes) own_record_is_blank);
              waiting = subst (λ (ms : List Message). IsPermutation (ms ++ (spread rows initiator blank).puts) after.waiting) none
                  (subst (λ (r : RunRecord). IsPermutation (first.waiting ++ (spread rows initiator r).puts) after.waiting) own_record_is_blank sent.waiting);
            };
            run = stays;
          };
          capacity = refl;
          handed = omega (arith, sent.handed);
        }

  -- At any time.
  module _ {room before : ℕ} {records : List RunRecord} {now : Carried} (going : Going rows initiator room before records now) where
    pub within_bounds : IsBounded rows (length going.order) (state records now.waiting)
    within_bounds = runs_are_bounded rows tabled.lawful initiator job going.order (state records now.waiting) going.run

    pub growth_is_the_deliveries : before < 2 ^ 32 → growth before now.handed ≡ length going.order
    growth_is_the_deliveries fits =
        let few : length going.order < 2 ^ 32 = omega (arith, within_bounds.deliveries, waits_are_few rows tabled) in
        growth_is_what_was_added before now.handed (length going.order) fits few going.handed

  -- A turn: a message is taken.
  module _ {room before : ℕ} {records : List RunRecord} {now : Carried} (going : Going rows initiator room before records now)
      {message : Message} {left : Carried} (took : Took now left (Some message)) where
    pub taken_message_is_expected : IsExpected rows records message
    taken_message_is_expected =
        (all_shuffled (IsExpected rows records) now.waiting (message ∷ left.waiting)
        (IsPermutation-sym (message ∷ left.waiting) now.waiting took.waiting) (within_bounds going).awaited).0

    delivered : {last : List RunRecord} → last ≡ set records (receiver message) (reaction rows records message).becomes
        → (waiting : List Message) → IsPermutation (left.waiting ++ (reaction rows records message).puts) waiting
        → Exchange rows initiator (going.order ++ message ∷ []) (state last waiting)
    delivered becomes waiting puts =
        exchange_goes_on going.run (record { rest = left.waiting; taken = took.waiting; records = becomes; waiting = puts })

    pub puts_have_room : 2 * waits rows ≤ room → RoomFor left (reaction rows records message).puts
    puts_have_room wide =
        let puts = (reaction rows records message).puts in
        let all = left.waiting ++ puts in
        let last = set records (receiver message) (reaction rows records message).becomes in
        let run = delivered refl all (IsPermutation-refl all) in
        omega (
          arith,
          (runs_are_bounded rows tabled.lawful initiator job (going.order ++ message ∷ []) (state last all) run).messages,
          length-append left.waiting puts,
          took.capacity,
          going.capacity,
        )

    -- The receiver reacts.
    module _ {last : List RunRecord} {after : Carried} (becomes : last ≡ set records (receiver message) (reaction rows records message).becomes)
        (sent : Sent left after (reaction rows records message).puts) where
      pub run_goes_on : Going rows initiator room before last after
      run_goes_on = record {
        order = going.order ++ message ∷ [];
        run = delivered becomes after.waiting sent.waiting;
        capacity = sent.capacity ∙ took.capacity ∙ going.capacity;
        handed = omega (arith, sent.handed, took.handed, going.handed, length_push going.order message);
      }

      pub fewer_deliveries_are_left : before < 2 ^ 32 → 4 * waits rows - growth before after.handed < 4 * waits rows - growth before now.handed
      unfolding run_goes_on
      fewer_deliveries_are_left fits =
          omega (
            arith,
            growth_is_the_deliveries going fits,
            growth_is_the_deliveries run_goes_on fits,
            (within_bounds run_goes_on).deliveries,
            length_push going.order message,
          )
