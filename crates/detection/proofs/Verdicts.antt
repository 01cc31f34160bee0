-- What a verdict says, where the initiator's record is free just when it can be freed.
use Rattle.std.proofs.Common.{◌≡◌, ℕ, Bool, true, false, cond, ◌↔◌, refl, arith}
use Rattle.std.proofs.lemmas.Bool.{false≢true}
use Rattle.detection.specs.declared.verdict.Verdict.{Verdict}
use Rattle.detection.specs.declared.verdict.Verdict.TheVariants.{Stuck, Free}

free_is_not_stuck : (v : Verdict) → v ≡ Free → v ≡ Stuck → ⊥
free_is_not_stuck v f s = let z : ◌≡◌ {A = ℕ} 0 1 = cc in omega arith

module _ {Freed : Type 0} (free : Bool) (verdict : Verdict) (of_record : verdict ≡ cond free Free Stuck) (freed : (free ≡ true) ↔ Freed) where
  pub free_verdict_tells : (verdict ≡ Free) ↔ Freed
  free_verdict_tells = by_cases free of_record freed
    where
      by_cases : (free : Bool) → verdict ≡ cond free Free Stuck → (free ≡ true) ↔ Freed → (verdict ≡ Free) ↔ Freed
      by_cases true e f = (λ _. f.0 refl, λ _. e)
      by_cases false e f = (λ v. absurd (free_is_not_stuck verdict v e), λ x. absurd (false≢true (f.1 x)))

  pub stuck_verdict_tells : (verdict ≡ Stuck) ↔ (Freed → ⊥)
  stuck_verdict_tells = by_cases free of_record freed
    where
      by_cases : (free : Bool) → verdict ≡ cond free Free Stuck → (free ≡ true) ↔ Freed → (verdict ≡ Stuck) ↔ (Freed → ⊥)
      by_cases true e f = (λ v. absurd (free_is_not_stuck verdict e v), λ no. absurd (no (f.0 refl)))
      by_cases false e f = (λ _ x. false≢true (f.1 x), λ _. e)
