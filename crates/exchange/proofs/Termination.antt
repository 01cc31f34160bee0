-- A run goes on while messages wait, and so comes to its end.
use Rattle.std.proofs.Common.{◌≡◌, ℕ, zero, suc, ◌+◌, ◌*◌, ◌<◌, true, List, [], ◌∷◌, ◌++◌, length, set, replicate, refl, arith}
use Rattle.std.proofs.lemmas.List.{length-append}
use Rattle.std.proofs.lemmas.List.Sorted.{IsPermutation-refl}
use Rattle.carriers.specs.declared.message.Message.{Message}
use Rattle.rows.specs.Waiting.{Waiting}
use Rattle.tables.specs.Tables.{lawful}
use Rattle.tables.specs.Waits.{waits}
use Rattle.carriers.specs.Messages.{receiver}
use Rattle.exchange.specs.Records.{blank}
use Rattle.exchange.specs.Rules.{spread}
use Rattle.exchange.specs.Runs.{RunState, reaction, Delivers, Run, stays, delivers, Exchange}
use Rattle.exchange.proofs.BoundLemmas.{runs_are_bounded}

-- A run goes on by one more delivery.
run_goes_on : {rows : List Waiting} {s t u : RunState} {order : List Message} {m : Message} → Run rows s order t → Delivers rows m t u → Run rows s (order ++ m ∷ []) u
run_goes_on stays last = delivers last stays
run_goes_on (delivers first run) last = delivers first (run_goes_on run last)

pub exchange_goes_on : {rows : List Waiting} {initiator : ℕ} {order : List Message} {s t : RunState} {m : Message}
    → Exchange rows initiator order s → Delivers rows m s t → Exchange rows initiator (order ++ m ∷ []) t
exchange_goes_on x last = record { first = x.first; begins = x.begins; run = run_goes_on x.run last }

-- The first of the messages that wait is delivered, and what its receiver puts waits after the others.
abbrev pub delivered_first : List Waiting → RunState → Message → List Message → RunState
delivered_first rows s m rest = record {
  records = set s.records (receiver m) (reaction rows s.records m).becomes;
  waiting = rest ++ (reaction rows s.records m).puts;
}

-- A run that is over.
pub record Ended (rows : List Waiting) (initiator : ℕ) : Type 0 where
  pub order : List Message
  pub last : RunState
  pub run : Exchange rows initiator order last
  pub over : last.waiting ≡ []

module _ (rows : List Waiting) (h : lawful rows ≡ true) (initiator : ℕ) (l : initiator < length rows) where
  goes_to_its_end : (k : ℕ) (order : List Message) (s : RunState) → Exchange rows initiator order s → 4 * waits rows < length order + k → Ended rows initiator
  goes_to_its_end zero order s x few = absurd (omega (arith, (runs_are_bounded rows h initiator l order s x).deliveries))
  goes_to_its_end (suc k) order s x few = go s.waiting refl (λ m t y. goes_to_its_end k (order ++ m ∷ []) t y (omega (arith, length-append order (m ∷ []))))
    where
      go : (ms : List Message) → s.waiting ≡ ms → ((m : Message) (t : RunState) → Exchange rows initiator (order ++ m ∷ []) t → Ended rows initiator) → Ended rows initiator
      go [] e more = record { order = order; last = s; run = x; over = e }
      go (m ∷ rest) e more =
          more m (delivered_first rows s m rest)
          (exchange_goes_on x (record {
            rest = rest;
            taken = rw e (IsPermutation-refl (m ∷ rest));
            records = refl;
            waiting = IsPermutation-refl (rest ++ (reaction rows s.records m).puts);
          }))

  pub a_run_ends : Ended rows initiator
  a_run_ends =
      let first : RunState = record { records = set (replicate (length rows) blank) initiator (spread rows initiator blank).becomes; waiting = (spread rows initiator blank).puts } in
      goes_to_its_end (suc (4 * waits rows)) [] first (record { first = first; begins = record { records = refl; waiting = IsPermutation-refl (spread rows initiator blank).puts }; run = stays }) (omega arith)
