-- What a run tells when no message waits.
use Rattle.std.proofs.Common.{◌≡◌, ℕ, ◌<◌, ◌≤◌, Bool, true, false, cond, not, ◌||◌, ◌⊎◌, ◌↔◌, List, [], length, get_or, sym, refl, ap, ◌∙◌, inl, inr, arith}
use Rattle.std.proofs.lemmas.Bool.{true≢false, cases_eq, cases_Bool}
use Rattle.rows.specs.Waiting.{Waiting, among}
use Rattle.tables.specs.ClosedSets.{count, IsLoosened}
use Rattle.tables.proofs.Grants.{closed_from, loosened_can_be_freed}
use Rattle.exchange.specs.Records.{blank}
use Rattle.exchange.specs.Runs.{RunState}
use Rattle.exchange.specs.Verdicts.{EndedRunsTell}
use Rattle.exchange.proofs.BoundLemmas.{exchange_keeps}
use Rattle.exchange.proofs.Entries
use Rattle.exchange.proofs.ExactDeliveries.{no_done_due, no_ack_due}
use Rattle.exchange.proofs.DeliveryInvariants.{Kept, sum_of_granted, sum_of_notified, sum_of_free}
use Rattle.exchange.proofs.LawfulRows.{need, targets, Sound, lawful_is_sound, count_grows}
use Rattle.exchange.proofs.Weights.{weigh}

module _ (rows : List Waiting) (ok : Sound rows) (initiator k : ℕ) (s : RunState) (v : Kept rows initiator k s) (none : s.waiting ≡ []) where
  abbrev free : ℕ → Bool
  free j = (get_or s.records j blank).free

  abbrev notified : ℕ → Bool
  notified j = (get_or s.records j blank).notified

  -- A target of a notified job is notified: no NOTIFY is on its way.
  pub target_is_notified : (j y : ℕ) → j < length rows → among y (targets rows j) ≡ true → notified j ≡ true → notified y ≡ true
  target_is_notified j y l a n =
      elim (cases_Bool (notified y)) [
        | inl h ↦ h
        | inr h ↦ absurd (
            let p = sum_of_notified rows ok s j l in
            let q = sum_of_notified rows ok s y (ok.below j y a) in
            let w = ap (weigh (Entries.notify_on j y)) none in
            let d = v.told j y a (q ∙ rw h) in
            let c : ◌≡◌ {A = ℕ} (cond (notified j) 1 0) 1 = rw n in
            omega arith)
      ]

  -- A blocked job with as many free targets as it needs is free: no GRANT is on its way.
  pub blocked_is_free : (j : ℕ) → j < length rows → 0 < need rows j → need rows j ≤ count free (targets rows j) → free j ≡ true
  blocked_is_free j l p h =
      elim (cases_Bool (free j)) [
        | inl f ↦ f
        | inr f ↦ absurd (
            let g = sum_of_granted rows ok s j l in
            let d = v.grants j in
            let w = ap (weigh (Entries.grant_to j)) none in
            let q = sum_of_free rows ok s j in
            let short = (v.fair j l).lacking p f in
            omega arith)
      ]

  -- So the jobs that are free or not notified are a closed set.
  abbrev out : ℕ → Bool
  out j = free j || not (notified j)

  out_holds : (j : ℕ) → j < length rows → need rows j ≤ count out (targets rows j) → out j ≡ true
  out_holds j l h = go (cases_Bool (free j)) (cases_Bool (notified j))
    where
      go : (free j ≡ true) ⊎ (free j ≡ false) → (notified j ≡ true) ⊎ (notified j ≡ false) → out j ≡ true
      go (inl f) n = grind arith
      go (inr f) (inr n) = grind arith
      go (inr f) (inl n) = absurd (
          elim (cases_eq (need rows j) 0) [
            | inl z ↦ true≢false (sym n ∙ sym ((v.fair j l).active z) ∙ f)
            | inr z ↦ (
                let c = count_grows out free (targets rows j) (λ u a o. let w = target_is_notified j u l a n in grind arith) in
                true≢false (sym (blocked_is_free j l (omega arith) (omega arith)) ∙ f))
          ])

  free_is_loosened : initiator < length rows → (free initiator ≡ true) ↔ IsLoosened rows initiator
  free_is_loosened il = (
    λ f S c. (v.held (λ j. true) S (record { begins = refl; goes_on = λ j u h a. refl }) (record { active = λ j l r z. c.active j l z; blocked = c.blocked }) initiator il).1 f,
    λ l. let o = l out (closed_from rows out out_holds) in let b = v.begun in grind arith,
  )

pub ended_runs_tell : EndedRunsTell
ended_runs_tell rows h initiator l order s x none =
    let ok = lawful_is_sound rows h in
    let told = free_is_loosened rows ok initiator (length order) s (exchange_keeps rows ok initiator l order s x) none l in
    let freed = loosened_can_be_freed rows initiator l in
    record {
      tells = (λ f. freed.0 (told.0 f), λ c. told.1 (freed.1 c));
      dones = no_done_due rows ok initiator l order s x none;
      acks = no_ack_due rows ok initiator l order s x none;
    }
