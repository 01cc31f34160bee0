-- Rising targets, and targets that fit.
use Rattle.std.proofs.Common.{◌≡◌, ℕ, zero, suc, ◌+◌, ◌<◌, ◌≤◌, true, false, not, eqb, leb, List, [], ◌∷◌, length, is_some, None, sym, refl, ap, ◌∙◌, ⊎_elim, arith}
use Rattle.std.proofs.lemmas.Bool.{cases_Bool, cases_eq, and_parts, and_from, leb-true, le-leb, true≢false}
use Rattle.std.proofs.lemmas.Bool.Decides.{nat_tests}
use Rattle.std.specs.List.{remove}
use Rattle.rows.specs.Waiting.{among}
use Rattle.rows.specs.Law.{rising, targets_fit}
use Rattle.rows.specs.Changes.{target_fits, first_wrong, without}

-- The length without a target that is there.
pub without_is_one_shorter : (u : ℕ) (ts : List ℕ) → among u ts ≡ true → length (without u ts) + 1 ≡ length ts
without_is_one_shorter u [] a = absurd (true≢false (sym a))
without_is_one_shorter u (t ∷ ts) a =
    ⊎_elim
    (λ (e : eqb t u ≡ true). rw e (omega arith))
    (λ (e : eqb t u ≡ false). rw e (omega (arith, without_is_one_shorter u ts (rw e at a))))
    (cases_Bool (eqb t u))

-- Rising.
pub rising_from_lower : (lower low : ℕ) (ts : List ℕ) → lower ≤ low → rising low ts ≡ true → rising lower ts ≡ true
rising_from_lower lower low [] l h = refl
rising_from_lower lower low (t ∷ ts) l h =
    let p = and_parts (leb low t) (rising (t + 1) ts) h in
    and_from (leb lower t) (rising (t + 1) ts) (le-leb lower t (omega (arith, leb-true low t p.0))) p.1

pub removed_still_rises : (low : ℕ) (ts : List ℕ) (place : ℕ) → rising low ts ≡ true → rising low (remove ts place) ≡ true
removed_still_rises low [] zero h = refl
removed_still_rises low [] (suc place) h = refl
removed_still_rises low (t ∷ ts) zero h =
    let p = and_parts (leb low t) (rising (t + 1) ts) h in
    rising_from_lower low (t + 1) ts (omega (arith, leb-true low t p.0)) p.1
removed_still_rises low (t ∷ ts) (suc place) h =
    let p = and_parts (leb low t) (rising (t + 1) ts) h in
    and_from (leb low t) (rising (t + 1) (remove ts place)) p.0 (removed_still_rises (t + 1) ts place p.1)

-- Fitting.
pub record Fitting (n job low t : ℕ) : Type 0 where
  pub below : t < n
  pub other : t ≡ job → ⊥
  pub above : low ≤ t

pub target_fit_tells : (n job low t : ℕ) → target_fits n job low t ≡ true → Fitting n job low t
target_fit_tells n job low t h = record { below = grind (arith, nat_tests); other = λ e. grind (arith, nat_tests); above = grind (arith, nat_tests) }

pub target_fit_from : (n job low t : ℕ) → Fitting n job low t → target_fits n job low t ≡ true
target_fit_from n job low t f =
    let below : t < n = f.below in
    let other : t ≡ job → ⊥ = f.other in
    let above : low ≤ t = f.above in
    grind (arith, nat_tests)

pub fitting_rises : (n job low : ℕ) (ts : List ℕ) → targets_fit n job low ts ≡ true → rising low ts ≡ true
fitting_rises n job low [] h = refl
fitting_rises n job low (t ∷ ts) h =
    let p = and_parts (target_fits n job low t) (targets_fit n job (t + 1) ts) h in
    and_from (leb low t) (rising (t + 1) ts) (le-leb low t (target_fit_tells n job low t p.0).above) (fitting_rises n job (t + 1) ts p.1)

pub fits_where_none_is_wrong : (n job low place : ℕ) (ts : List ℕ) → targets_fit n job low ts ≡ not (is_some (first_wrong n job low place ts))
fits_where_none_is_wrong n job low place [] = refl
fits_where_none_is_wrong n job low place (t ∷ ts) =
    ⊎_elim
    (λ (e : target_fits n job low t ≡ true). rw e (fits_where_none_is_wrong n job (t + 1) (place + 1) ts))
    (λ (e : target_fits n job low t ≡ false). rw e)
    (cases_Bool (target_fits n job low t))

pub none_wrong_fits : (n job low place : ℕ) (ts : List ℕ) → first_wrong n job low place ts ≡ None → targets_fit n job low ts ≡ true
none_wrong_fits n job low place ts h = fits_where_none_is_wrong n job low place ts ∙ ap (λ found. not (is_some found)) h

fits_from_lower : (n job lower low : ℕ) (ts : List ℕ) → lower ≤ low → targets_fit n job low ts ≡ true → targets_fit n job lower ts ≡ true
fits_from_lower n job lower low [] l h = refl
fits_from_lower n job lower low (t ∷ ts) l h =
    let p = and_parts (target_fits n job low t) (targets_fit n job (t + 1) ts) h in
    let f = target_fit_tells n job low t p.0 in
    and_from (target_fits n job lower t) (targets_fit n job (t + 1) ts)
    (target_fit_from n job lower t (record { below = f.below; other = f.other; above = omega (arith, f.above) }))
    p.1

pub without_still_fits : (u n job low : ℕ) (ts : List ℕ) → targets_fit n job low ts ≡ true → targets_fit n job low (without u ts) ≡ true
without_still_fits u n job low [] h = refl
without_still_fits u n job low (t ∷ ts) h =
    let p = and_parts (target_fits n job low t) (targets_fit n job (t + 1) ts) h in
    ⊎_elim
    (λ (e : eqb t u ≡ true). rw e (fits_from_lower n job low (t + 1) ts (omega (arith, (target_fit_tells n job low t p.0).above)) p.1))
    (λ (e : eqb t u ≡ false). rw e (and_from (target_fits n job low t) (targets_fit n job (t + 1) (without u ts)) p.0 (without_still_fits u n job (t + 1) ts p.1)))
    (cases_Bool (eqb t u))

pub among_fitting_is_below : (n job low : ℕ) (ts : List ℕ) → targets_fit n job low ts ≡ true → (u : ℕ) → among u ts ≡ true → u < n
among_fitting_is_below n job low [] h u a = absurd (true≢false (sym a))
among_fitting_is_below n job low (t ∷ ts) h u a =
    let p = and_parts (target_fits n job low t) (targets_fit n job (t + 1) ts) h in
    ⊎_elim
    (λ (e : t ≡ u). omega (arith, (target_fit_tells n job low t p.0).below))
    (λ (d : t ≡ u → ⊥). among_fitting_is_below n job (t + 1) ts p.1 u (grind (arith, nat_tests)))
    (cases_eq t u)
