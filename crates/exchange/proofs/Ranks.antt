-- Jobs are notified, and freed, one after the other: each after the job whose message did it.
use Rattle.std.proofs.Common.{◌≡◌, ℕ, suc, ◌+◌, ◌<◌, ◌≤◌, Bool, true, false, cond, eqb, List, length, get_or, set, replicate, Some, None, Option, sym, refl, ap, ◌∙◌, subst, inl, inr, arith}
use lib.ListN.{length-replicate}
use Rattle.std.proofs.lemmas.List.{get_or-replicate}
use Rattle.std.proofs.lemmas.Bool.{true≢false}
use Rattle.std.proofs.lemmas.Bool.Decides.{nat_tests}
use Rattle.carriers.specs.declared.message.Message.{Message}
use Rattle.carriers.specs.declared.message.Wait.{Wait}
use Rattle.rows.specs.Waiting.{Waiting}
use Rattle.tables.proofs.Grants.{row_after_a_write}
use Rattle.carriers.specs.Messages.{receiver}
use Rattle.exchange.specs.Records.{blank}
use Rattle.exchange.specs.Rules.{spread}
use Rattle.exchange.specs.Runs.{RunState, reaction, Begins, Delivers, Run, stays, delivers}
use Rattle.exchange.specs.declared.record.RunRecord.{RunRecord}
use Rattle.exchange.proofs.DeliveryInvariants.{Kept, delivery_keeps, is_a_job, notifier_is_notified, granter_is_free}
use Rattle.exchange.proofs.Reactions
use Rattle.exchange.proofs.LawfulRows.{Sound}

-- Of two kinds of reaching a job: whether it was reached, on which wait, and who is on its other end.
module _ (reached : RunRecord → Bool) (by : RunRecord → Option Wait) (sender : Wait → ℕ) where
  abbrev pub Later : (rank : ℕ → ℕ) → List RunRecord → ℕ → Option Wait → Type 0
  Later rank records j None = Unit {0}
  Later rank records j (Some w) = (reached (get_or records (sender w) blank) ≡ true) × (rank (sender w) < rank j)

  abbrev raised : (j k : ℕ) → (ℕ → ℕ) → ℕ → ℕ
  raised j k rank x = cond (eqb x j) (suc k) (rank x)

  -- Each of n jobs has a rank, at most k, above that of the job that reached it.
  pub record Ranked (n k : ℕ) (records : List RunRecord) : Type 0 where
    pub rank : ℕ → ℕ
    pub bound : (j : ℕ) → rank j ≤ k
    pub each : (j : ℕ) → j < n → Later rank records j (by (get_or records j blank))

  module _ (records : List RunRecord) (j : ℕ) (r : RunRecord) (l : j < length records) (m : reached (get_or records j blank) ≡ true → reached r ≡ true) where
    reached_stays : (x : ℕ) → reached (get_or records x blank) ≡ true → reached (get_or (set records j r) x blank) ≡ true
    reached_stays x = row_after_a_write (λ i q. reached (get_or records i blank) ≡ true → reached q ≡ true) blank records j r x l m (λ n f. f)

    later_stays : (rank : ℕ → ℕ) (x : ℕ) (o : Option Wait) → Later rank records x o → Later rank (set records j r) x o
    later_stays rank x None a = tt
    later_stays rank x (Some w) a = (reached_stays (sender w) a.0, a.1)

    -- No job is reached, or the job j is, by one that was reached before.
    pub ranked_as_before : (n k : ℕ) → by r ≡ by (get_or records j blank) → Ranked n k records → Ranked n (suc k) (set records j r)
    ranked_as_before n k e v = record {
      rank = v.rank;
      bound = λ x. omega (arith, v.bound x);
      each = λ x h. row_after_a_write (λ i q. (i < n → Later v.rank records i (by (get_or records i blank))) → i < n → Later v.rank (set records j r) i (by q)) blank records j r x l
          (λ a b. later_stays v.rank j (by r) (subst (Later v.rank records j) (sym e) (a b))) (λ d a b. later_stays v.rank x (by (get_or records x blank)) (a b)) (v.each x) h;
    }

    pub ranked_with_one_more : (n k : ℕ) (w : Wait) → reached (get_or records j blank) ≡ false → by r ≡ Some w → reached (get_or records (sender w) blank) ≡ true
        → Ranked n k records → Ranked n (suc k) (set records j r)
    ranked_with_one_more n k w f e s v = record {
      rank = raised j k v.rank;
      bound = λ x. let b = v.bound x in grind (arith, nat_tests);
      each = λ x h. row_after_a_write (λ i q. (i < n → Later v.rank records i (by (get_or records i blank))) → i < n → Later (raised j k v.rank) (set records j r) i (by q)) blank records j r x l
          (λ a b. subst (Later (raised j k v.rank) (set records j r) j) (sym e) (reached_stays (sender w) s, let d = apart (sender w) s in let b = v.bound (sender w) in grind (arith, nat_tests)))
          (λ d a b. moved x d (by (get_or records x blank)) (a b)) (v.each x) h;
    }
      where
        apart : (x : ℕ) → reached (get_or records x blank) ≡ true → x ≡ j → ⊥
        apart x g z = true≢false (sym g ∙ ap (λ (y : ℕ). reached (get_or records y blank)) z ∙ f)

        moved : (x : ℕ) → (x ≡ j → ⊥) → (o : Option Wait) → Later v.rank records x o → Later (raised j k v.rank) (set records j r) x o
        moved x d None a = tt
        moved x d (Some y) a = (reached_stays (sender y) a.0, let c = apart (sender y) a.0 in let b = a.1 in grind (arith, nat_tests))

  -- At the start no job was reached by another.
  pub ranked_at_first : (n initiator : ℕ) (r : RunRecord) → initiator < n → by blank ≡ None → by r ≡ None → Ranked n 0 (set (replicate n blank) initiator r)
  ranked_at_first n initiator r l b e = record {
    rank = λ x. 0;
    bound = λ x. omega arith;
    each = λ x h. subst (Later (λ y. 0) (set (replicate n blank) initiator r) x) (sym (none x h)) tt;
  }
    where
      none : (x : ℕ) → x < n → by (get_or (set (replicate n blank) initiator r) x blank) ≡ None
      none x h = row_after_a_write (λ i q. by q ≡ None) blank (replicate n blank) initiator r x (omega (arith, length-replicate n blank)) e
          (λ d. ap by (get_or-replicate n x blank blank h) ∙ b)

abbrev pub is_notified : RunRecord → Bool
is_notified r = r.notified

abbrev pub is_free : RunRecord → Bool
is_free r = r.free

abbrev pub notified_by : RunRecord → Option Wait
notified_by r = r.notified_by

abbrev pub freed_by : RunRecord → Option Wait
freed_by r = r.freed_by

abbrev pub notifier : Wait → ℕ
notifier w = w.waiter

abbrev pub granter : Wait → ℕ
granter w = w.target

pub record Timed (rows : List Waiting) (k : ℕ) (s : RunState) : Type 0 where
  pub notices : Ranked is_notified notified_by notifier (length rows) k s.records
  pub frees : Ranked is_free freed_by granter (length rows) k s.records

module _ (rows : List Waiting) (ok : Sound rows) (initiator : ℕ) where
  -- A delivery reaches a job after the one that put the message.
  delivery_is_timed : (k : ℕ) (s t : RunState) (m : Message) → Kept rows initiator k s → Delivers rows m s t → Timed rows k s → Timed rows (suc k) t
  delivery_is_timed k s t m v d w =
      let old = get_or s.records (receiver m) blank in
      let new = (reaction rows s.records m).becomes in
      let l : receiver m < length s.records = omega (arith, is_a_job rows ok initiator k s t m v d, v.records) in
      let notified-stays = Reactions.stays_notified rows ok m.kind m.wait old in
      let free_stays = Reactions.stays_free rows ok m.kind m.wait old in
      record {
        notices = subst (Ranked is_notified notified_by notifier (length rows) (suc k)) (sym d.records) (
            elim (Reactions.notified_by_stays_or_is_noted rows ok m.kind m.wait old) [
              | inl e ↦ ranked_as_before is_notified notified_by notifier s.records (receiver m) new l notified-stays (length rows) k e w.notices
              | inr p ↦ ranked_with_one_more is_notified notified_by notifier s.records (receiver m) new l notified-stays (length rows) k m.wait p.1 p.2 (notifier_is_notified rows ok initiator k s t m v d p.0) w.notices
            ]);
        frees = subst (Ranked is_free freed_by granter (length rows) (suc k)) (sym d.records) (
            elim (Reactions.freed_by_stays_or_is_noted rows ok m.kind m.wait old) [
              | inl e ↦ ranked_as_before is_free freed_by granter s.records (receiver m) new l free_stays (length rows) k e w.frees
              | inr p ↦ ranked_with_one_more is_free freed_by granter s.records (receiver m) new l free_stays (length rows) k m.wait p.1 p.2 (granter_is_free rows ok initiator k s t m v d p.0) w.frees
            ]);
      }

  pub start_is_timed : initiator < length rows → (s : RunState) → Begins rows initiator s → Timed rows 0 s
  start_is_timed il s b =
      let new = (spread rows initiator blank).becomes in
      record {
        notices = subst (Ranked is_notified notified_by notifier (length rows) 0) (sym b.records)
            (ranked_at_first is_notified notified_by notifier (length rows) initiator new il refl (Reactions.at_spread rows ok (λ a. a.becomes.notified_by ≡ None) initiator blank (λ z. refl) (λ z. refl)));
        frees = subst (Ranked is_free freed_by granter (length rows) 0) (sym b.records)
            (ranked_at_first is_free freed_by granter (length rows) initiator new il refl (Reactions.at_spread rows ok (λ a. a.becomes.freed_by ≡ None) initiator blank (λ z. refl) (λ z. refl)));
      }

  pub run_is_timed : (k : ℕ) {s t : RunState} {ms : List Message} → Run rows s ms t → Kept rows initiator k s → Timed rows k s → Timed rows (k + length ms) t
  run_is_timed k {t = t} stays v w = let e : k ≡ k + 0 = omega arith in subst (λ (n : ℕ). Timed rows n t) e w
  run_is_timed k {t = u} (delivers {s = s} {t = t} {m = m} {ms = ms} d run) v w =
      let e : suc k + length ms ≡ k + suc (length ms) = omega arith in
      subst (λ (n : ℕ). Timed rows n u) e (run_is_timed (suc k) run (delivery_keeps rows ok initiator k s t m v d) (delivery_is_timed k s t m v d w))
