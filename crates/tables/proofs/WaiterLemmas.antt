-- Who waits for a job: what stands in the list of waiters, and going through it.
use Rattle.std.proofs.Common.{◌≡◌, ℕ, zero, suc, ◌+◌, ◌<◌, ◌≤◌, true, false, eqb, leb, List, [], ◌∷◌, length, filter, Some, None, Option, MatchOption, sym, refl, ap, ◌∙◌, subst, inl, inr, ⊎_elim, add-one, arith}
use Rattle.std.proofs.lemmas.Bool.{true≢false, cases_Bool, cases_lt, and_parts, and_from, or_cases, or_right, eqb-true, eq-eqb, ne_eqb, leb-true, leb-false, le-leb, lt-leb}
use Rattle.rows.specs.Waiting.{Waiting, at, among}
use Rattle.rows.specs.Places.{target_at}
use Rattle.rows.specs.Law.{rising}
use Rattle.rows.proofs.Fits.{rising_from_lower}
use Rattle.tables.specs.Tables.{first_from}
use Rattle.tables.specs.Waits.{waiters_from, waiters}
use Rattle.tables.proofs.TargetLemmas.{no_target_is_past, target_past_is_none, target_is_among}
use Rattle.tables.proofs.Laws.{who_waits_is_a_job}

-- Waiters rise.
pub waiters_from_rise : (job u : ℕ) (rows : List Waiting) → rising job (waiters_from job u rows) ≡ true
waiters_from_rise job u [] = refl
waiters_from_rise job u (w ∷ ws) =
    ⊎_elim
    (λ (e : among u w.targets ≡ true). rw e (and_from (leb job job) (rising (job + 1) (waiters_from (job + 1) u ws)) (le-leb job job (omega arith)) (waiters_from_rise (job + 1) u ws)))
    (λ (e : among u w.targets ≡ false). rw e (rising_from_lower job (job + 1) (waiters_from (job + 1) u ws) (omega arith) (waiters_from_rise (job + 1) u ws)))
    (cases_Bool (among u w.targets))

pub waiters_rise : (rows : List Waiting) (u : ℕ) → rising 0 (waiters rows u) ≡ true
waiters_rise rows u = waiters_from_rise 0 u rows

-- There are no more waiters than rows.
pub waiters_from_are_few : (job u : ℕ) (rows : List Waiting) → length (waiters_from job u rows) ≤ length rows
waiters_from_are_few job u [] = omega arith
waiters_from_are_few job u (w ∷ ws) =
    let m = waiters_from_are_few (job + 1) u ws in
    ⊎_elim
    (λ (e : among u w.targets ≡ true). rw e (omega arith))
    (λ (e : among u w.targets ≡ false). rw e (omega arith))
    (cases_Bool (among u w.targets))

-- The waiters are those jobs whose rows wait.
no_waiter_is_below_the_first_row : (x job u : ℕ) (rows : List Waiting) → x < job → among x (waiters_from job u rows) ≡ false
no_waiter_is_below_the_first_row x job u [] l = refl
no_waiter_is_below_the_first_row x job u (w ∷ ws) l =
    let m = no_waiter_is_below_the_first_row x (job + 1) u ws (omega arith) in
    ⊎_elim
    (λ (e : among u w.targets ≡ true). rw (e, ne_eqb job x (λ same. omega arith)) m)
    (λ (e : among u w.targets ≡ false). rw e m)
    (cases_Bool (among u w.targets))

waiters_from_are_who_waits : (job u : ℕ) (rows : List Waiting) (v : ℕ) → among (job + v) (waiters_from job u rows) ≡ among u (at rows v).targets
waiters_from_are_who_waits job u [] v = refl
waiters_from_are_who_waits job u (w ∷ ws) zero =
    ⊎_elim
    (λ (e : among u w.targets ≡ true). rw (e, eq-eqb job (job + 0) (omega arith)))
    (λ (e : among u w.targets ≡ false). rw (e, no_waiter_is_below_the_first_row (job + 0) (job + 1) u ws (omega arith)))
    (cases_Bool (among u w.targets))
waiters_from_are_who_waits job u (w ∷ ws) (suc v) =
    let e : job + 1 + v ≡ job + suc v = omega arith in
    let ih = subst (λ (k : ℕ). among k (waiters_from (job + 1) u ws) ≡ among u (at ws v).targets) e (waiters_from_are_who_waits (job + 1) u ws v) in
    ⊎_elim
    (λ (e : among u w.targets ≡ true). rw (e, ne_eqb job (job + suc v) (λ same. omega arith)) ih)
    (λ (e : among u w.targets ≡ false). rw e ih)
    (cases_Bool (among u w.targets))

pub waiters_are_who_waits : (rows : List Waiting) (u v : ℕ) → among v (waiters rows u) ≡ among u (at rows v).targets
waiters_are_who_waits rows u v =
    let e : 0 + v ≡ v = omega arith in
    subst (λ (k : ℕ). among k (waiters rows u) ≡ among u (at rows v).targets) e (waiters_from_are_who_waits 0 u rows v)

-- The first waiter not below a number that is not above the first row is the first one.
first_from_lower_is_first : (from job u : ℕ) (rows : List Waiting) → from ≤ job → first_from from (waiters_from job u rows) ≡ target_at (waiters_from job u rows) 0
first_from_lower_is_first from job u [] l = refl
first_from_lower_is_first from job u (w ∷ ws) l =
    ⊎_elim
    (λ (e : among u w.targets ≡ true). rw (e, le-leb from job l))
    (λ (e : among u w.targets ≡ false). rw e (first_from_lower_is_first from (job + 1) u ws (omega arith)))
    (cases_Bool (among u w.targets))

-- Going on from a number of a rising list.
first_from_lower_of_rising : (from low : ℕ) (xs : List ℕ) → from ≤ low → rising low xs ≡ true → first_from from xs ≡ target_at xs 0
first_from_lower_of_rising from low [] l h = refl
first_from_lower_of_rising from low (x ∷ xs) l h =
    let p = and_parts (leb low x) (rising (x + 1) xs) h in
    rw (le-leb from x (omega (arith, leb-true low x p.0)))

pub among_rising_is_not_below : (low : ℕ) (xs : List ℕ) (x : ℕ) → rising low xs ≡ true → among x xs ≡ true → low ≤ x
among_rising_is_not_below low [] x h a = absurd (true≢false (sym a))
among_rising_is_not_below low (y ∷ ys) x h a =
    let p = and_parts (leb low y) (rising (y + 1) ys) h in
    let above = leb-true low y p.0 in
    ⊎_elim
    (λ (e : eqb y x ≡ true). omega (arith, eqb-true y x e))
    (λ (b : among x ys ≡ true). omega (arith, among_rising_is_not_below (y + 1) ys x p.1 b))
    (or_cases (eqb y x) (among x ys) a)

first_from_next_is_next : (low : ℕ) (xs : List ℕ) (place x : ℕ) → rising low xs ≡ true → target_at xs place ≡ Some x → first_from (x + 1) xs ≡ target_at xs (suc place)
first_from_next_is_next low [] place x h e = let z : ◌≡◌ {A = ℕ} 0 1 = cc in absurd (omega arith)
first_from_next_is_next low (y ∷ ys) zero x h e =
    let p = and_parts (leb low y) (rising (y + 1) ys) h in
    let same : y ≡ x = cc in
    rw (lt-leb (x + 1) y (omega arith)) (first_from_lower_of_rising (x + 1) (y + 1) ys (omega arith) p.1)
first_from_next_is_next low (y ∷ ys) (suc place) x h e =
    let p = and_parts (leb low y) (rising (y + 1) ys) h in
    let above = among_rising_is_not_below (y + 1) ys x p.1 (target_is_among ys place x e) in
    rw (lt-leb (x + 1) y (omega arith)) (first_from_next_is_next (y + 1) ys place x p.1 e)

-- The walk from waiter to waiter: `here` is the waiter at a place.
pub walk_starts_at_place_0 : (rows : List Waiting) (u : ℕ) (here : Option ℕ) → here ≡ first_from 0 (waiters rows u) → here ≡ target_at (waiters rows u) 0
walk_starts_at_place_0 rows u here e = e ∙ first_from_lower_is_first 0 0 u rows (omega arith)

pub walked_waiter_is_a_job : (rows : List Waiting) (u place v : ℕ) (here : Option ℕ) → here ≡ target_at (waiters rows u) place → here ≡ Some v → v < length rows
walked_waiter_is_a_job rows u place v here e s =
    who_waits_is_a_job rows v u (sym (waiters_are_who_waits rows u v) ∙ target_is_among (waiters rows u) place v (sym e ∙ s))

pub walk_goes_on_to_the_next_place : (rows : List Waiting) (u place v : ℕ) (here next : Option ℕ) → here ≡ target_at (waiters rows u) place → here ≡ Some v
    → next ≡ first_from (v + 1) (waiters rows u) → next ≡ target_at (waiters rows u) (place + 1)
walk_goes_on_to_the_next_place rows u place v here next e s n =
    n ∙ rw (add-one place) (first_from_next_is_next 0 (waiters rows u) place v (waiters_rise rows u) (sym e ∙ s))

pub walk_ends_at_a_place_without : (rows : List Waiting) (u place far : ℕ) (here : Option ℕ) → here ≡ target_at (waiters rows u) place → here ≡ None → place ≤ far
    → None ≡ target_at (waiters rows u) far
walk_ends_at_a_place_without rows u place far here e s l =
    sym (target_past_is_none (waiters rows u) far (omega (arith, no_target_is_past (waiters rows u) place (sym s ∙ e))))

pub no_waiter_past_as_many_places_as_jobs : (rows : List Waiting) (u place : ℕ) → length rows ≤ place → None ≡ target_at (waiters rows u) place
no_waiter_past_as_many_places_as_jobs rows u place l = sym (target_past_is_none (waiters rows u) place (omega (arith, waiters_from_are_few 0 u rows)))

-- What the first number from another on tells.
first_found_is_among : (from : ℕ) (xs : List ℕ) (v : ℕ) → first_from from xs ≡ Some v → (from ≤ v) × (among v xs ≡ true)
first_found_is_among from [] v h = let z : ◌≡◌ {A = ℕ} 0 1 = cc in absurd (omega arith)
first_found_is_among from (x ∷ xs) v h =
    ⊎_elim
    (λ (e : leb from x ≡ true).
    let same : x ≡ v = cc (rw e at h) in
    (omega (arith, leb-true from x e), rw (eq-eqb x v same)))
    (λ (e : leb from x ≡ false).
    let f = first_found_is_among from xs v (rw e at h) in
    (f.0, or_right (eqb x v) (among v xs) f.1))
    (cases_Bool (leb from x))

first_found_is_least : (low from : ℕ) (xs : List ℕ) (v : ℕ) → rising low xs ≡ true → first_from from xs ≡ Some v → (w : ℕ) → among w xs ≡ true → from ≤ w → v ≤ w
first_found_is_least low from [] v r h w a l = absurd (true≢false (sym a))
first_found_is_least low from (x ∷ xs) v r h w a l =
    let p = and_parts (leb low x) (rising (x + 1) xs) r in
    ⊎_elim
    (λ (e : leb from x ≡ true).
    let same : x ≡ v = cc (rw e at h) in
    ⊎_elim
    (λ (b : eqb x w ≡ true). omega (arith, eqb-true x w b))
    (λ (b : among w xs ≡ true). omega (arith, among_rising_is_not_below (x + 1) xs w p.1 b))
    (or_cases (eqb x w) (among w xs) a))
    (λ (e : leb from x ≡ false).
    ⊎_elim
    (λ (b : eqb x w ≡ true). absurd (omega (arith, eqb-true x w b, leb-false from x e)))
    (λ (b : among w xs ≡ true). first_found_is_least (x + 1) from xs v p.1 (rw e at h) w b l)
    (or_cases (eqb x w) (among w xs) a))
    (cases_Bool (leb from x))

none_found_leaves_those_below : (from : ℕ) (xs : List ℕ) → first_from from xs ≡ None → (w : ℕ) → among w xs ≡ true → w < from
none_found_leaves_those_below from [] h w a = absurd (true≢false (sym a))
none_found_leaves_those_below from (x ∷ xs) h w a =
    ⊎_elim
    (λ (e : leb from x ≡ true). let z : ◌≡◌ {A = ℕ} 0 1 = cc (rw e at h) in absurd (omega arith))
    (λ (e : leb from x ≡ false).
    ⊎_elim
    (λ (b : eqb x w ≡ true). omega (arith, eqb-true x w b, leb-false from x e))
    (λ (b : among w xs ≡ true). none_found_leaves_those_below from xs (rw e at h) w b)
    (or_cases (eqb x w) (among w xs) a))
    (cases_Bool (leb from x))

-- The first waiter from a number on waits, and every other such waiter is above it.
pub record FirstWaiter (rows : List Waiting) (u from v : ℕ) : Type 0 where
  pub not_below : from ≤ v
  pub waits : among u (at rows v).targets ≡ true
  pub least : (w : ℕ) → among u (at rows w).targets ≡ true → from ≤ w → v ≤ w

pub first_waiter_tells : (rows : List Waiting) (u from v : ℕ) → first_from from (waiters rows u) ≡ Some v → FirstWaiter rows u from v
first_waiter_tells rows u from v h =
    let f = first_found_is_among from (waiters rows u) v h in
    record {
      not_below = f.0;
      waits = sym (waiters_are_who_waits rows u v) ∙ f.1;
      least = λ w a l. first_found_is_least 0 from (waiters rows u) v (waiters_rise rows u) h w (waiters_are_who_waits rows u w ∙ a) l;
    }

pub no_waiter_from_there_on : (rows : List Waiting) (u from : ℕ) → first_from from (waiters rows u) ≡ None → (w : ℕ) → among u (at rows w).targets ≡ true → w < from
no_waiter_from_there_on rows u from h w a = none_found_leaves_those_below from (waiters rows u) h w (waiters_are_who_waits rows u w ∙ a)

-- The first job from a number on that waits is the first waiter from there on.
pub first_who_waits_is_the_first_waiter : (rows : List Waiting) (u from jobs : ℕ) → jobs ≡ length rows → (found : Option ℕ)
    → MatchOption found ((v : ℕ) → from ≤ v → v < jobs → among u (at rows v).targets ≡ false)
    (λ v. (from ≤ v) × (v < jobs) × (among u (at rows v).targets ≡ true) × ((w : ℕ) → from ≤ w → w < v → among u (at rows w).targets ≡ false))
    → found ≡ first_from from (waiters rows u)
first_who_waits_is_the_first_waiter rows u from jobs n found h = go found h (first_from from (waiters rows u)) refl
  where
    go : (found : Option ℕ)
        → MatchOption found ((v : ℕ) → from ≤ v → v < jobs → among u (at rows v).targets ≡ false)
        (λ v. (from ≤ v) × (v < jobs) × (among u (at rows v).targets ≡ true) × ((w : ℕ) → from ≤ w → w < v → among u (at rows w).targets ≡ false))
        → (first : Option ℕ) → first_from from (waiters rows u) ≡ first → found ≡ first
    go None h None e = refl
    go None h (Some v) e =
        let f = first_waiter_tells rows u from v e in
        let job = who_waits_is_a_job rows v u f.waits in
        absurd (true≢false (sym f.waits ∙ h v f.not_below (omega arith)))
    go (Some v) h None e = absurd (omega (arith, no_waiter_from_there_on rows u from e v h.2, h.0))
    go (Some v) h (Some w) e =
        let f = first_waiter_tells rows u from w e in
        let below = f.least v h.2 h.0 in
        elim (cases_lt w v) [
          | inl l ↦ absurd (true≢false (sym f.waits ∙ h.3 w f.not_below l))
          | inr l ↦ let same : v ≡ w = omega arith in ap (λ (k : ℕ). Some k) same
        ]

-- The numbers of a rising list that are not below another.
pub rising_is_not_below : (from low : ℕ) (xs : List ℕ) → from ≤ low → rising low xs ≡ true → filter (λ v. leb from v) xs ≡ xs
rising_is_not_below from low [] l h = refl
rising_is_not_below from low (x ∷ xs) l h =
    let p = and_parts (leb low x) (rising (x + 1) xs) h in
    let above = leb-true low x p.0 in
    rw (le-leb from x (omega arith)) (ap (λ ys. x ∷ ys) (rising_is_not_below from (x + 1) xs (omega arith) p.1))

none_is_left_where_none_is_first : (from : ℕ) (xs : List ℕ) → first_from from xs ≡ None → filter (λ v. leb from v) xs ≡ []
none_is_left_where_none_is_first from [] h = refl
none_is_left_where_none_is_first from (x ∷ xs) h =
    ⊎_elim
    (λ (e : leb from x ≡ true). let z : ◌≡◌ {A = ℕ} 0 1 = cc (rw e at h) in absurd (omega arith))
    (λ (e : leb from x ≡ false). rw e (none_is_left_where_none_is_first from xs (rw e at h)))
    (cases_Bool (leb from x))

first_heads_those_left : (low from : ℕ) (xs : List ℕ) (v : ℕ) → rising low xs ≡ true → first_from from xs ≡ Some v → filter (λ w. leb from w) xs ≡ v ∷ filter (λ w. leb (v + 1) w) xs
first_heads_those_left low from [] v r h = let z : ◌≡◌ {A = ℕ} 0 1 = cc in absurd (omega arith)
first_heads_those_left low from (x ∷ xs) v r h =
    let p = and_parts (leb low x) (rising (x + 1) xs) r in
    ⊎_elim
    (λ (e : leb from x ≡ true).
    let same : x ≡ v = cc (rw e at h) in
    let above = leb-true from x e in
    rw (e, lt-leb (v + 1) x (omega arith), rising_is_not_below from (x + 1) xs (omega arith) p.1, rising_is_not_below (v + 1) (x + 1) xs (omega arith) p.1) (ap (λ y. y ∷ xs) same))
    (λ (e : leb from x ≡ false).
    let found : first_from from xs ≡ Some v = rw e at h in
    let f = first_found_is_among from xs v found in
    rw (e, lt-leb (v + 1) x (omega (arith, leb-false from x e, f.0))) (first_heads_those_left (x + 1) from xs v p.1 found))
    (cases_Bool (leb from x))

-- The waiters that are left from a number on.
pub all_waiters_are_left : (rows : List Waiting) (u : ℕ) → filter (λ v. leb 0 v) (waiters rows u) ≡ waiters rows u
all_waiters_are_left rows u = rising_is_not_below 0 0 (waiters rows u) (omega arith) (waiters_rise rows u)

pub no_waiters_left : (rows : List Waiting) (u from : ℕ) → first_from from (waiters rows u) ≡ None → filter (λ v. leb from v) (waiters rows u) ≡ []
no_waiters_left rows u from h = none_is_left_where_none_is_first from (waiters rows u) h

pub no_waiters_left_past_the_last_job : (rows : List Waiting) (u from : ℕ) → length rows ≤ from → filter (λ v. leb from v) (waiters rows u) ≡ []
no_waiters_left_past_the_last_job rows u from l = go (first_from from (waiters rows u)) refl
  where
    go : (first : Option ℕ) → first_from from (waiters rows u) ≡ first → filter (λ v. leb from v) (waiters rows u) ≡ []
    go None e = no_waiters_left rows u from e
    go (Some v) e =
        let f = first_waiter_tells rows u from v e in
        absurd (omega (arith, f.not_below, who_waits_is_a_job rows v u f.waits))

pub next_waiter_heads_those_left : (rows : List Waiting) (u from v : ℕ) → first_from from (waiters rows u) ≡ Some v → filter (λ w. leb from w) (waiters rows u) ≡ v ∷ filter (λ w. leb (v + 1) w) (waiters rows u)
next_waiter_heads_those_left rows u from v h = first_heads_those_left 0 from (waiters rows u) v (waiters_rise rows u) h

pub next_waiter_is_a_job : (rows : List Waiting) (u from v : ℕ) → first_from from (waiters rows u) ≡ Some v → v < length rows
next_waiter_is_a_job rows u from v h = who_waits_is_a_job rows v u (first_waiter_tells rows u from v h).waits
