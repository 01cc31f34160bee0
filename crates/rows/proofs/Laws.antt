-- The row law is kept by all that makes a row, and what it tells.
use Rattle.std.proofs.Common.{◌≡◌, ℕ, ◌-◌, ◌<◌, Bool, true, false, not, eqb, List, length, is_some, Some, None, Ok, Option, sym, refl, subst, ⊎_elim, arith}
use mathlib.Core.Bool.{not-not}
use Rattle.std.proofs.lemmas.Bool.{cases_Bool, and_parts, and_from, eqb-false}
use Rattle.rows.specs.declared.plain.PlainRow.{PlainRow}
use Rattle.rows.specs.Waiting.{Waiting, idle, among}
use Rattle.rows.specs.Law.{counts_fit, rising, targets_fit, row_fits}
use Rattle.rows.specs.Storage.{shaped, places_fit, sound}
use Rattle.rows.specs.Changes.{wrong_counts, first_wrong, without, granted, placed, requested}
use Rattle.rows.specs.StoredRows.{waiting, plain_fits}
use Rattle.rows.proofs.Counts.{Counts, fit_tells, right_counts_fit, one_less_fits}
use Rattle.rows.proofs.Fits.{without_is_one_shorter, fitting_rises, none_wrong_fits, fits_where_none_is_wrong, without_still_fits, among_fitting_is_below}

-- The two parts of the law.
fits_parts : (n job : ℕ) (w : Waiting) → row_fits n job w ≡ true → (counts_fit w.need (length w.targets) ≡ true) × (targets_fit n job 0 w.targets ≡ true)
fits_parts n job w h = and_parts (counts_fit w.need (length w.targets)) (targets_fit n job 0 w.targets) h

fits_from : (n job : ℕ) (w : Waiting) → counts_fit w.need (length w.targets) ≡ true → targets_fit n job 0 w.targets ≡ true → row_fits n job w ≡ true
fits_from n job w c t = and_from (counts_fit w.need (length w.targets)) (targets_fit n job 0 w.targets) c t

-- An idle row fits.
pub idle_fits : (n job : ℕ) → row_fits n job idle ≡ true
idle_fits n job = refl

-- Whether a row fits is found by its counts and a scan of its targets.
pub fits_where_counts_fit_and_none_is_wrong : (n job need : ℕ) (targets : List ℕ) (r : Bool) → counts_fit need (length targets) ≡ true → is_some (first_wrong n job 0 0 targets) ≡ not r → r ≡ row_fits n job (record { need = need; targets = targets })
fits_where_counts_fit_and_none_is_wrong n job need targets r c h = rw (c, fits_where_none_is_wrong n job 0 0 targets, h) (sym (not-not r))

-- The row of a request fits.
placed_has_no_place : (place : Option ℕ) (v w : Waiting) → placed place v ≡ Ok w → (place ≡ None) × (v ≡ w)
placed_has_no_place None v w h = (refl, cc)
placed_has_no_place (Some place) v w h = let z : ◌≡◌ {A = ℕ} 0 1 = cc in absurd (omega arith)

pub request_fits : (n job need : ℕ) (targets : List ℕ) (w : Waiting) → requested n job need targets ≡ Ok w → row_fits n job w ≡ true
request_fits n job need targets w h =
    ⊎_elim
    (λ (e : wrong_counts need (length targets) ≡ true). let z : ◌≡◌ {A = ℕ} 0 1 = cc (rw e at h) in absurd (omega arith))
    (λ (e : wrong_counts need (length targets) ≡ false).
    let v : Waiting = record { need = need; targets = targets } in
    let p = placed_has_no_place (first_wrong n job 0 0 targets) v w (rw e at h) in
    subst (λ (w : Waiting). row_fits n job w ≡ true) p.1 (fits_from n job v (right_counts_fit need (length targets) e) (none_wrong_fits n job 0 0 targets p.0)))
    (cases_Bool (wrong_counts need (length targets)))

-- The row after a grant fits.
pub grant_fits : (n job u : ℕ) (w : Waiting) → row_fits n job w ≡ true → among u w.targets ≡ true → row_fits n job (granted u w) ≡ true
grant_fits n job u w h a =
    let p = fits_parts n job w h in
    ⊎_elim
    (λ (e : eqb (w.need - 1) 0 ≡ true). rw e)
    (λ (e : eqb (w.need - 1) 0 ≡ false).
    let more : 1 < w.need = omega (arith, eqb-false (w.need - 1) 0 e) in
    let c = one_less_fits w.need (length w.targets) (length (without u w.targets)) (fit_tells w.need (length w.targets) p.0) (without_is_one_shorter u w.targets a) more in
    rw e (fits_from n job (record { need = w.need - 1; targets = without u w.targets }) c (without_still_fits u n job 0 w.targets p.1)))
    (cases_Bool (eqb (w.need - 1) 0))

-- What the law tells.
pub fits_counts : (n job : ℕ) (w : Waiting) → row_fits n job w ≡ true → Counts w.need (length w.targets)
fits_counts n job w h = fit_tells w.need (length w.targets) (fits_parts n job w h).0

pub fits_shaped : (n job : ℕ) (w : Waiting) → row_fits n job w ≡ true → shaped w ≡ true
fits_shaped n job w h =
    let p = fits_parts n job w h in
    and_from (counts_fit w.need (length w.targets)) (rising 0 w.targets) p.0 (fitting_rises n job 0 w.targets p.1)

pub fits_below : (n job : ℕ) (w : Waiting) → row_fits n job w ≡ true → (u : ℕ) → among u w.targets ≡ true → u < n
fits_below n job w h u a = among_fitting_is_below n job 0 w.targets (fits_parts n job w h).1 u a

-- A stored row obeys the law when it is sound and what it says fits.
pub fits_sound : (n job : ℕ) (p : PlainRow) → plain_fits n job p ≡ true → sound p.need p.count p.targets ≡ true
fits_sound n job p h =
    let q = and_parts (places_fit p.count p.targets) (row_fits n job (waiting p)) h in
    and_from (places_fit p.count p.targets) (shaped (waiting p)) q.0 (fits_shaped n job (waiting p) q.1)

pub sound_fits : (n job : ℕ) (p : PlainRow) → sound p.need p.count p.targets ≡ true → row_fits n job (waiting p) ≡ true → plain_fits n job p ≡ true
sound_fits n job p s h =
    let q = and_parts (places_fit p.count p.targets) (shaped (waiting p)) s in
    and_from (places_fit p.count p.targets) (row_fits n job (waiting p)) q.0 h
