-- When no message waits, nothing is owed, so the number of deliveries is known to the last one.
use Rattle.std.proofs.Common.{◌≡◌, ℕ, zero, suc, ◌+◌, ◌*◌, ◌<◌, Bool, true, false, cond, eqb, List, [], length, get_or, Some, None, Option, sym, ap, ◌∙◌, subst, inl, inr, arith}
use Rattle.std.proofs.lemmas.Bool.{cases_eq}
use Rattle.std.proofs.lemmas.Bool.Decides.{nat_tests}
use Rattle.carriers.specs.declared.message.Message.{Message}
use Rattle.carriers.specs.declared.message.Wait.{Wait}
use Rattle.rows.specs.Waiting.{Waiting}
use Rattle.tables.specs.Waits.{waiters}
use Rattle.exchange.specs.Records.{blank}
use Rattle.exchange.specs.Runs.{RunState, Exchange}
use Rattle.exchange.specs.declared.record.RunRecord.{RunRecord}
use Rattle.exchange.proofs.BoundLemmas.{exchange_keeps}
use Rattle.exchange.proofs.Entries
use Rattle.exchange.proofs.DeliveryInvariants.{Kept, sums, sum_of_dones, sum_of_acks, start_keeps}
use Rattle.exchange.proofs.Ranks.{Later, Timed, is_notified, is_free, notified_by, freed_by, notifier, granter, start_is_timed, run_is_timed}
use Rattle.exchange.proofs.LawfulRows.{Sound, targets, waits_by_waiter, waits_by_target}
use Rattle.exchange.proofs.Sums.{total, total_same, total_none, total_add}
use Rattle.exchange.proofs.Weights.{weigh}

-- The waits that leave jobs of one set, and those on jobs of another: twice each.
abbrev pub twice_both : List Waiting → (R S : ℕ → Bool) → ℕ
twice_both rows R S = 2 * total (length rows) (λ j. cond (R j) (length (targets rows j)) 0) + 2 * total (length rows) (λ j. cond (S j) (length (waiters rows j)) 0)

total_zero : (n : ℕ) (f : ℕ → ℕ) → ((k : ℕ) → k < n → f k ≡ 0) → total n f ≡ 0
total_zero n f h = total_same n f (λ k. 0) h ∙ total_none n

-- A sum by a test and its opposite.
total_split : (n : ℕ) (b : ℕ → Bool) (f : ℕ → ℕ) → total n (λ k. cond (b k) (f k) 0) + total n (λ k. cond (b k) 0 (f k)) ≡ total n f
total_split n b f = sym (total_add n (λ k. cond (b k) (f k) 0) (λ k. cond (b k) 0 (f k))) ∙ total_same n (λ k. cond (b k) (f k) 0 + cond (b k) 0 (f k)) f (λ k l. one (b k) (f k))
  where
    one : (b : Bool) (n : ℕ) → cond b n 0 + cond b 0 n ≡ n
    one true n = omega arith
    one false n = omega arith

-- A job owes x nothing, if it does not once it was reached after x.
owes_no_ack : (x j n d : ℕ) (r : RunRecord) (rank : ℕ → ℕ) (records : List RunRecord) → n < rank x + suc d → Later is_free freed_by granter rank records j r.freed_by
    → (n < rank j + d → r.acks_due ≡ 0) → Entries.owes_ack x j r ≡ 0
owes_no_ack x j n d r rank records h a f = go r.freed_by a
  where
    go : (o : Option Wait) → Later is_free freed_by granter rank records j o → cond (eqb r.acks_due 0) 0 (Entries.target_is x o) ≡ 0
    go None a = grind arith
    go (Some y) a = elim (cases_eq y.target x) [ inl e ↦ (let z = f (omega (arith, a.1, ap rank e)) in grind (arith, nat_tests)) | inr e ↦ grind (arith, nat_tests) ]

owes_no_done : (rows : List Waiting) (x j n d : ℕ) (r : RunRecord) (rank : ℕ → ℕ) (records : List RunRecord) → n < rank x + suc d
    → Later is_notified notified_by notifier rank records j r.notified_by → (n < rank j + d → Entries.due rows j r ≡ 0) → Entries.owes_done rows x j r ≡ 0
owes_no_done rows x j n d r rank records h a f = go (Entries.due rows j r) r.notified_by a f
  where
    go : (u : ℕ) (o : Option Wait) → Later is_notified notified_by notifier rank records j o → (n < rank j + d → u ≡ 0) → cond (eqb u 0) 0 (Entries.waiter_is x o) ≡ 0
    go u None a f = grind arith
    go u (Some y) a f = elim (cases_eq y.waiter x) [ inl e ↦ (let z = f (omega (arith, a.1, ap rank e)) in grind (arith, nat_tests)) | inr e ↦ grind (arith, nat_tests) ]

nothing_due : (rows : List Waiting) (j : ℕ) (r : RunRecord) → r.acks_due ≡ 0 → r.dones_due ≡ 0 → Entries.due rows j r ≡ 0
nothing_due rows j r a b = grind (arith, nat_tests)

module _ (rows : List Waiting) (ok : Sound rows) (initiator : ℕ) (l : initiator < length rows) (order : List Message) (s : RunState) (x : Exchange rows initiator order s) (none : s.waiting ≡ []) where
  v : Kept rows initiator (length order) s
  v = exchange_keeps rows ok initiator l order s x

  w : Timed rows (length order) s
  w =
      let e : 0 + length order ≡ length order = omega arith in
      subst (λ (n : ℕ). Timed rows n s) e
      (run_is_timed rows ok initiator 0 x.run (start_keeps rows ok initiator l x.first x.begins) (start_is_timed rows ok initiator l x.first x.begins))

  -- No ack is due to whoever was freed last, hence to none; and so for dones.
  no_ack_due_from : (d j : ℕ) → j < length rows → length order < w.frees.rank j + d → (get_or s.records j blank).acks_due ≡ 0
  no_ack_due_from zero j b h = absurd (omega (arith, w.frees.bound j))
  no_ack_due_from (suc d) j b h =
      let z = total_zero (length rows) (λ i. Entries.owes_ack j i (get_or s.records i blank))
      (λ i c. owes_no_ack j i (length order) d (get_or s.records i blank) w.frees.rank s.records h (w.frees.each i c) (no_ack_due_from d i c)) in
      omega (arith, sum_of_acks rows ok s j b, v.acks j, ap (weigh (Entries.grant_of j)) none, z)

  pub no_ack_due : (j : ℕ) → j < length rows → (get_or s.records j blank).acks_due ≡ 0
  no_ack_due j b = no_ack_due_from (suc (length order)) j b (omega arith)

  no_done_due_from : (d j : ℕ) → j < length rows → length order < w.notices.rank j + d → (get_or s.records j blank).dones_due ≡ 0
  no_done_due_from zero j b h = absurd (omega (arith, w.notices.bound j))
  no_done_due_from (suc d) j b h =
      let z = total_zero (length rows) (λ i. Entries.owes_done rows j i (get_or s.records i blank))
      (λ i c. owes_no_done rows j i (length order) d (get_or s.records i blank) w.notices.rank s.records h (w.notices.each i c)
      (λ g. nothing_due rows i (get_or s.records i blank) (no_ack_due i c) (no_done_due_from d i c g))) in
      omega (arith, sum_of_dones rows ok s j b, v.dones j, ap (weigh (Entries.notice_of j)) none, z)

  pub no_done_due : (j : ℕ) → j < length rows → (get_or s.records j blank).dones_due ≡ 0
  no_done_due j b = no_done_due_from (suc (length order)) j b (omega arith)

  nothing_owed : sums (length rows) s.records (Entries.owed rows) ≡ 0
  nothing_owed = total_zero (length rows) (λ j. Entries.owed rows j (get_or s.records j blank))
      (λ j b. let a = no_ack_due j b in let d = nothing_due rows j (get_or s.records j blank) a (no_done_due j b) in grind (arith, nat_tests))

  -- Two messages and two answers on each wait, as far as it was used.
  pub exact_count : length order ≡ twice_both rows (λ j. (get_or s.records j blank).notified) (λ j. (get_or s.records j blank).free)
  exact_count =
      let sum = total_add (length rows) (λ j. cond (get_or s.records j blank).notified 0 (length (targets rows j))) (λ j. cond (get_or s.records j blank).free 0 (length (waiters rows j))) in
      let out = total_split (length rows) (λ j. (get_or s.records j blank).notified) (λ j. length (targets rows j)) in
      let in' = total_split (length rows) (λ j. (get_or s.records j blank).free) (λ j. length (waiters rows j)) in
      omega (arith, v.spent, nothing_owed, waits_by_waiter rows ok, waits_by_target rows ok, sum, out, in', ap (weigh Entries.first) none, ap (weigh Entries.answer) none)
