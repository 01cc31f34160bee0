-- The test of the row law finds the five facts of the rules, and they pass it.
use Rattle.std.proofs.Common.{◌≡◌, ℕ, zero, suc, ◌+◌, ◌<◌, ◌≤◌, ◌⊎◌, ◌↔◌, true, false, eqb, leb, List, [], ◌∷◌, length, slice_index, sym, refl, ◌∙◌, subst, inl, inr, add-one, arith}
use Rattle.std.proofs.lemmas.Bool.{cases_eq, and_parts, and_from, leb-true, eq-eqb, ne_eqb, or_right, true≢false}
use Rattle.std.proofs.lemmas.Bool.Decides.{nat_tests}
use Rattle.rows.specs.Waiting.{Waiting, among}
use Rattle.rows.specs.Law.{counts_fit, rising, targets_fit, row_fits}
use Rattle.rows.specs.Changes.{target_fits}
use Rattle.rows.specs.LawFacts.{IsLawfulRow}
use Rattle.rows.proofs.Counts.{fit_tells}
use Rattle.rows.proofs.Fits.{target_fit_tells, target_fit_from, fitting_rises, among_fitting_is_below}

-- From the test to the facts.
none_where_none_count : (ts : List ℕ) → length ts ≡ 0 → ts ≡ []
none_where_none_count [] e = refl
none_where_none_count (t ∷ ts) e = absurd (omega arith)

rises_at : (low : ℕ) (ts : List ℕ) → rising low ts ≡ true → (place : ℕ) → suc place < length ts → slice_index ts place < slice_index ts (suc place)
rises_at low [] h place l = absurd (omega arith)
rises_at low (t ∷ []) h place l = absurd (omega arith)
rises_at low (t ∷ (u ∷ ts)) h zero l =
    let p = and_parts (leb low t) (rising (t + 1) (u ∷ ts)) h in
    let q = and_parts (leb (t + 1) u) (rising (u + 1) ts) p.1 in
    omega (arith, leb-true (t + 1) u q.0)
rises_at low (t ∷ (u ∷ ts)) h (suc place) l =
    rises_at (t + 1) (u ∷ ts) (and_parts (leb low t) (rising (t + 1) (u ∷ ts)) h).1 place (omega arith)

job_is_not_among : (n job low : ℕ) (ts : List ℕ) → targets_fit n job low ts ≡ true → among job ts ≡ false
job_is_not_among n job low [] h = refl
job_is_not_among n job low (t ∷ ts) h =
    let p = and_parts (target_fits n job low t) (targets_fit n job (t + 1) ts) h in
    rw (ne_eqb t job (target_fit_tells n job low t p.0).other) (job_is_not_among n job (t + 1) ts p.1)

facts_of_test : (n job : ℕ) (w : Waiting) → row_fits n job w ≡ true → IsLawfulRow n job w
facts_of_test n job w h =
    let p = and_parts (counts_fit w.need (length w.targets)) (targets_fit n job 0 w.targets) h in
    let c = fit_tells w.need (length w.targets) p.0 in
    record {
      need = elim (cases_eq w.need 0) [
        | inl z ↦ inl (z, none_where_none_count w.targets (c.none z))
        | inr more ↦ inr (omega arith, c.enough)
      ];
      few = c.few;
      below = among_fitting_is_below n job 0 w.targets p.1;
      rising = λ place l. rw (add-one place) (rises_at 0 w.targets (fitting_rises n job 0 w.targets p.1) place (omega arith));
      other = job_is_not_among n job 0 w.targets p.1;
    }

-- From the facts to the test.
targets_pass : (n job low : ℕ) (ts : List ℕ) → ((u : ℕ) → among u ts ≡ true → u < n) → ((place : ℕ) → suc place < length ts → slice_index ts place < slice_index ts (suc place))
    → among job ts ≡ false → (0 < length ts → low ≤ slice_index ts 0) → targets_fit n job low ts ≡ true
targets_pass n job low [] below rise other first = refl
targets_pass n job low (t ∷ ts) below rise other first =
    let here : among t (t ∷ ts) ≡ true = rw (eq-eqb t t refl) refl in
    let not_job : t ≡ job → ⊥ = λ e. true≢false (sym here ∙ subst (λ j. among j (t ∷ ts) ≡ false) (sym e) other) in
    and_from (target_fits n job low t) (targets_fit n job (t + 1) ts)
    (target_fit_from n job low t (record { below = below t here; other = not_job; above = first (omega arith) }))
    (targets_pass n job (t + 1) ts (λ u a. below u (or_right (eqb t u) (among u ts) a)) (λ place l. rise (suc place) (omega arith))
    (rw (ne_eqb t job not_job) at other)
    (λ some. let next = rise 0 (omega arith) in omega (arith, next)))

counts_pass : (need : ℕ) (ts : List ℕ) → ((need ≡ 0) × (ts ≡ [])) ⊎ ((1 ≤ need) × (need ≤ length ts)) → length ts ≤ 16 → counts_fit need (length ts) ≡ true
counts_pass need ts (inl (z, none)) few = rw (z, none) refl
counts_pass need ts (inr (some, enough)) few = grind (arith, nat_tests)

test_of_facts : (n job : ℕ) (w : Waiting) → IsLawfulRow n job w → row_fits n job w ≡ true
test_of_facts n job w f =
    and_from (counts_fit w.need (length w.targets)) (targets_fit n job 0 w.targets)
    (counts_pass w.need w.targets f.need f.few)
    (targets_pass n job 0 w.targets f.below (λ place l. rw (sym (add-one place)) (f.rising place (omega arith))) f.other (λ some. omega arith))

pub law_is_tested : (n job : ℕ) (w : Waiting) → (row_fits n job w ≡ true) ↔ IsLawfulRow n job w
law_is_tested n job w = (facts_of_test n job w, test_of_facts n job w)
