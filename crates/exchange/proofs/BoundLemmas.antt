-- Every run is bounded.
use Rattle.std.proofs.Common.{◌≡◌, ℕ, suc, ◌+◌, ◌<◌, ◌≤◌, List, [], ◌∷◌, length, subst, arith}
use Rattle.std.specs.List.{AllByRecursion}
use Rattle.carriers.specs.declared.message.Kind.{Kind}
use Rattle.carriers.specs.declared.message.Message.{Message}
use Rattle.carriers.specs.declared.message.Wait.{Wait}
use Rattle.rows.specs.Waiting.{Waiting}
use Rattle.exchange.specs.Runs.{RunState, Run, stays, delivers, Exchange}
use Rattle.exchange.specs.Bounds.{IsExpected, RunsAreBounded}
use Rattle.exchange.proofs.Entries
use Rattle.exchange.proofs.DeliveryInvariants.{Kept, delivery_keeps, start_keeps, finds_due, length-by_weight}
use Rattle.exchange.proofs.Reactions.{receiver_is_a_job}
use Rattle.exchange.proofs.LawfulRows.{Sound, lawful_is_sound}
use Rattle.exchange.proofs.Weights.{weigh}

module _ (rows : List Waiting) (ok : Sound rows) where
  -- A run keeps what each delivery keeps.
  pub run_keeps : (initiator k : ℕ) {s t : RunState} {ms : List Message} → Run rows s ms t → Kept rows initiator k s → Kept rows initiator (k + length ms) t
  run_keeps initiator k {t = t} stays v = let e : k ≡ k + 0 = omega arith in subst (λ (n : ℕ). Kept rows initiator n t) e v
  run_keeps initiator k {t = u} (delivers {s = s} {t = t} {m = m} {ms = ms} d run) v =
      let e : suc k + length ms ≡ k + suc (length ms) = omega arith in
      subst (λ (n : ℕ). Kept rows initiator n u) e (run_keeps initiator (suc k) run (delivery_keeps rows ok initiator k s t m v d))

  pub exchange_keeps : (initiator : ℕ) → initiator < length rows → (order : List Message) (s : RunState) → Exchange rows initiator order s → Kept rows initiator (length order) s
  exchange_keeps initiator l order s x =
      let e : 0 + length order ≡ length order = omega arith in
      subst (λ (n : ℕ). Kept rows initiator n s) e (run_keeps initiator 0 x.run (start_keeps rows ok initiator l x.first x.begins))

  -- Each message that waits is awaited.
  all_expected : (initiator k : ℕ) (s : RunState) → Kept rows initiator k s → AllByRecursion (IsExpected rows s.records) s.waiting
  all_expected initiator k s v = part s.waiting v.on_waits (λ f. omega arith)
    where
      part : (ms : List Message) → AllByRecursion (Entries.OnWait rows) ms → ((f : Kind → Wait → ℕ) → weigh f ms ≤ weigh f s.waiting) → AllByRecursion (IsExpected rows s.records) ms
      part [] a h = tt
      part (m ∷ ms) a h = (
        record {
          job = receiver_is_a_job rows ok m.kind m.wait a.0;
          due = finds_due rows ok initiator k s v m.kind m.wait a.0 (λ f. omega (arith, h f));
        },
        part ms a.1 (λ f. omega (arith, h f)),
      )

pub runs_are_bounded : RunsAreBounded
runs_are_bounded rows h initiator l order s x =
    let ok = lawful_is_sound rows h in
    let v = exchange_keeps rows ok initiator l order s x in
    record {
      records = v.records;
      deliveries = omega (arith, v.spent);
      messages = omega (arith, v.left, length-by_weight s.waiting);
      awaited = all_expected rows ok initiator (length order) s v;
    }
