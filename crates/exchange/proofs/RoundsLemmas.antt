-- Sets found in rounds to which nothing is added any more are the jobs that a run notifies and frees.
use Rattle.std.proofs.Common.{◌≡◌, ℕ, zero, suc, ◌+◌, ◌*◌, ◌<◌, ◌≤◌, Bool, true, false, cond, not, ◌&&◌, ◌||◌, eqb, ltb, leb, List, [], ◌∷◌, length, get_or, sym, refl, ap, ◌∙◌, subst, inl, inr, arith}
use Rattle.std.proofs.lemmas.Bool.{true≢false, cases_eq, or_cases, and_parts, eqb-true}
use Rattle.std.proofs.lemmas.Bool.Decides.{nat_tests}
use Rattle.carriers.specs.declared.message.Message.{Message}
use Rattle.rows.specs.Waiting.{Waiting, among}
use Rattle.tables.specs.ClosedSets.{count}
use Rattle.tables.specs.Waits.{waiters}
use Rattle.tables.proofs.Laws.{who_waits_is_a_job}
use Rattle.exchange.specs.Records.{blank}
use Rattle.exchange.specs.Runs.{RunState, Exchange}
use Rattle.exchange.proofs.BoundLemmas.{exchange_keeps}
use Rattle.exchange.proofs.Entries.{Spreading, Freeing}
use Rattle.exchange.proofs.ExactDeliveries.{twice_both, exact_count}
use Rattle.exchange.proofs.DeliveryInvariants.{Kept}
use Rattle.exchange.proofs.LawfulRows.{Sound, need, targets, count_grows}
use Rattle.exchange.proofs.Sums.{total, total_same}
use Rattle.exchange.proofs.EndedRuns.{target_is_notified, blocked_is_free}
use Rattle.exchange.proofs.Rounds.{some_below, each_below, all_in, reached, freed, spread_out, freed_out}

some_below_tells : (n : ℕ) (p : ℕ → Bool) → some_below n p ≡ true → (w : ℕ) × (w < n) × (p w ≡ true)
some_below_tells zero p h = absurd (true≢false (sym h))
some_below_tells (suc n) p h = elim (or_cases (p n) (some_below n p) h) [
  | inl e ↦ (n, omega arith, e)
  | inr e ↦ (let s = some_below_tells n p e in (s.0, omega (arith, s.1), s.2))
]

each_below_tells : (n : ℕ) (p : ℕ → Bool) → each_below n p ≡ true → (v : ℕ) → v < n → p v ≡ true
each_below_tells zero p h v l = absurd (omega arith)
each_below_tells (suc n) p h v l =
    let b = and_parts (p n) (each_below n p) h in
    elim (cases_eq v n) [ inl e ↦ subst (λ (x : ℕ). p x ≡ true) (sym e) b.0 | inr e ↦ each_below_tells n p b.1 v (omega arith) ]

all_in_tells : (S : ℕ → Bool) (ts : List ℕ) → all_in S ts ≡ true → (u : ℕ) → among u ts ≡ true → S u ≡ true
all_in_tells S [] h u a = absurd (true≢false (sym a))
all_in_tells S (t ∷ ts) h u a =
    let b = and_parts (S t) (all_in S ts) h in
    elim (or_cases (eqb t u) (among u ts) a) [ inl e ↦ subst (λ (x : ℕ). S x ≡ true) (eqb-true t u e) b.0 | inr e ↦ all_in_tells S ts b.1 u e ]

-- Two sets with the same jobs.
both_ways : (a b : Bool) → (a ≡ true → b ≡ true) → (b ≡ true → a ≡ true) → a ≡ b
both_ways true b f g = sym (f refl)
both_ways false true f g = g refl
both_ways false false f g = refl

module _ (rows : List Waiting) (ok : Sound rows) (initiator : ℕ) (l : initiator < length rows) (k : ℕ) where
  abbrev R : ℕ → Bool
  R = reached rows initiator k

  abbrev S : ℕ → Bool
  S = freed rows (reached rows initiator k) k

  module _ (begins : R initiator ≡ true) (out : spread_out rows R ≡ true) (free-out : freed_out rows R S ≡ true) where
    spreading : Spreading rows initiator R
    spreading = record {
      begins = begins;
      goes_on = λ v u r a.
          let e = each_below_tells (length rows) (λ v. not (R v) || all_in R (targets rows v)) out v (who_waits_is_a_job rows v u a) in
          let h : all_in R (targets rows v) ≡ true = (rw r at e) in
          all_in_tells R (targets rows v) h u a;
    }

    freeing : Freeing rows R S
    freeing = record {
      active = λ v b r z.
          let e = each_below_tells (length rows) (λ v. S v || cond (eqb (need rows v) 0) (not (R v)) (ltb (count S (targets rows v)) (need rows v))) free-out v b in
          active_holds (S v) (R v) (need rows v) (ltb (count S (targets rows v)) (need rows v)) z r e;
      blocked = λ v b p h.
          let e = each_below_tells (length rows) (λ v. S v || cond (eqb (need rows v) 0) (not (R v)) (ltb (count S (targets rows v)) (need rows v))) free-out v b in
          blocked_holds (S v) (not (R v)) (need rows v) (count S (targets rows v)) p h e;
    }
      where
        active_holds : (s r : Bool) (n : ℕ) (b : Bool) → n ≡ 0 → r ≡ true → s || cond (eqb n 0) (not r) b ≡ true → s ≡ true
        active_holds s r n b z e h = grind (arith, nat_tests)

        blocked_holds : (s r : Bool) (n c : ℕ) → 0 < n → n ≤ c → s || cond (eqb n 0) r (ltb c n) ≡ true → s ≡ true
        blocked_holds s r n c p le h = grind (arith, nat_tests)

    module _ (order : List Message) (s : RunState) (x : Exchange rows initiator order s) (none : s.waiting ≡ []) where
      v : Kept rows initiator (length order) s
      v = exchange_keeps rows ok initiator l order s x

      abbrev notified : ℕ → Bool
      notified j = (get_or s.records j blank).notified

      abbrev free : ℕ → Bool
      free j = (get_or s.records j blank).free

      -- each round finds only jobs that the run has notified, and freed
      reached_is_notified : (i j : ℕ) → reached rows initiator i j ≡ true → notified j ≡ true
      reached_is_notified zero j h = subst (λ (y : ℕ). notified y ≡ true) (sym (eqb-true j initiator h)) v.begun
      reached_is_notified (suc i) j h =
          elim (or_cases (reached rows initiator i j) (some_below (length rows) (λ w. reached rows initiator i w && among j (targets rows w))) h) [
            | inl e ↦ reached_is_notified i j e
            | inr e ↦ (
                let w = some_below_tells (length rows) (λ w. reached rows initiator i w && among j (targets rows w)) e in
                let b = and_parts (reached rows initiator i w.0) (among j (targets rows w.0)) w.2 in
                target_is_notified rows ok initiator (length order) s v none w.0 j w.1 b.1 (reached_is_notified i w.0 b.0))
          ]

      freed_is_free : (i j : ℕ) → freed rows R i j ≡ true → free j ≡ true
      freed_is_free zero j h = absurd (true≢false (sym h))
      freed_is_free (suc i) j h =
          elim (or_cases (freed rows R i j) (ltb j (length rows) && cond (eqb (need rows j) 0) (R j) (leb (need rows j) (count (freed rows R i) (targets rows j)))) h) [
            | inl e ↦ freed_is_free i j e
            | inr e ↦ (
                let b = and_parts (ltb j (length rows)) (cond (eqb (need rows j) 0) (R j) (leb (need rows j) (count (freed rows R i) (targets rows j)))) e in
                let here : j < length rows = grind (arith, nat_tests) in
                elim (cases_eq (need rows j) 0) [
                  | inl z ↦ (v.fair j here).active z ∙ reached_is_notified k j (active_part (R j) (need rows j) (leb (need rows j) (count (freed rows R i) (targets rows j))) z b.1)
                  | inr z ↦ (
                      let enough = blocked_part (R j) (need rows j) (count (freed rows R i) (targets rows j)) z b.1 in
                      let more = count_grows (freed rows R i) free (targets rows j) (λ u a f. freed_is_free i u f) in
                      blocked_is_free rows ok initiator (length order) s v none j here (omega arith) (omega arith))
                ])
          ]
        where
          active_part : (r : Bool) (n : ℕ) (b : Bool) → n ≡ 0 → cond (eqb n 0) r b ≡ true → r ≡ true
          active_part r n b z h = grind (arith, nat_tests)

          blocked_part : (r : Bool) (n c : ℕ) → (n ≡ 0 → ⊥) → cond (eqb n 0) r (leb n c) ≡ true → n ≤ c
          blocked_part r n c z h = grind (arith, nat_tests)

      same_notified : (j : ℕ) → j < length rows → notified j ≡ R j
      same_notified j b = both_ways (notified j) (R j) (v.held R S spreading freeing j b).0 (reached_is_notified k j)

      same_free : (j : ℕ) → j < length rows → free j ≡ S j
      same_free j b = both_ways (free j) (S j) (v.held R S spreading freeing j b).1 (freed_is_free k j)

      pub rounds_tell : (length order ≡ twice_both rows R S) × (free initiator ≡ S initiator)
      rounds_tell = (
        exact_count rows ok initiator l order s x none
            ∙ ap (λ (n : ℕ). 2 * n + 2 * total (length rows) (λ j. cond (free j) (length (waiters rows j)) 0))
            (total_same (length rows) (λ j. cond (notified j) (length (targets rows j)) 0) (λ j. cond (R j) (length (targets rows j)) 0) (λ j b. ap (λ (c : Bool). cond c (length (targets rows j)) 0) (same_notified j b)))
            ∙ ap (λ (n : ℕ). 2 * total (length rows) (λ j. cond (R j) (length (targets rows j)) 0) + 2 * n)
            (total_same (length rows) (λ j. cond (free j) (length (waiters rows j)) 0) (λ j. cond (S j) (length (waiters rows j)) 0) (λ j b. ap (λ (c : Bool). cond c (length (waiters rows j)) 0) (same_free j b))),
        same_free initiator l,
      )
