-- Looking through targets: what the scans find.
use Rattle.std.proofs.Common.{◌≡◌, ℕ, zero, suc, ◌+◌, ◌*◌, ◌<◌, ◌≤◌, true, false, not, cond, Bool, eqb, leb, ltb, ◌||◌, List, [], ◌∷◌, length, map, get_or, position, Some, Option, sym, refl, ap, ◌∙◌, inl, inr, ⊎_elim, arith}
use Rattle.std.proofs.lemmas.Bool.{cases_Bool, cases_lt, and_from, le-leb, lt-ltb, le-ltb}
use Rattle.std.proofs.lemmas.Bool.Decides.{nat_tests}
use Rattle.std.specs.List.{AllAdjacentBelow, IsAllAdjacentAnswer, position_or_len}
use Rattle.std.specs.Simd.Lanes.{mask_l}
use Rattle.rows.specs.Waiting.{among}
use Rattle.rows.specs.Law.{rising}
use Rattle.rows.specs.Places.{IsPlaceOf}

-- Rising: each target is below the next.
suc_plus_one : (k : ℕ) → suc k + 1 ≡ suc (k + 1)
suc_plus_one k = omega arith

neighbours_rise : (x : ℕ) (xs : List ℕ) → AllAdjacentBelow (λ before after. true ≡ ltb before after) (x ∷ xs) (length (x ∷ xs)) → rising (x + 1) xs ≡ true
neighbours_rise x [] h = refl
neighbours_rise x (y ∷ ys) h =
    let first : leb (x + 1) y ≡ true = grind (arith, nat_tests, h 0 0 (omega arith)) in
    and_from (leb (x + 1) y) (rising (y + 1) ys) first (neighbours_rise y ys (λ k d l. rw (suc_plus_one k) at (h (suc k) d (omega arith))))

neighbours_fall : (x : ℕ) (xs : List ℕ) (k : ℕ) → k + 1 < length (x ∷ xs) → ((d : ℕ) → false ≡ ltb (get_or (x ∷ xs) k d) (get_or (x ∷ xs) (k + 1) d)) → rising (x + 1) xs ≡ false
neighbours_fall x [] k l h = absurd (omega arith)
neighbours_fall x (y ∷ ys) zero l h =
    let first : leb (x + 1) y ≡ false = grind (arith, nat_tests, h 0) in
    rw first
neighbours_fall x (y ∷ ys) (suc k) l h = grind (arith, neighbours_fall y ys k (omega arith) (λ d. rw (suc_plus_one k) at (h d)))

pub rising_where_neighbours_rise : (ts : List ℕ) (r : Bool) → IsAllAdjacentAnswer (λ before after b. b ≡ ltb before after) ts r → r ≡ rising 0 ts
rising_where_neighbours_rise [] true h = refl
rising_where_neighbours_rise [] false h = absurd (omega (arith, h.1))
rising_where_neighbours_rise (t ∷ ts) true h = rw (le-leb 0 t (omega arith)) (sym (neighbours_rise t ts h))
rising_where_neighbours_rise (t ∷ ts) false h = rw (le-leb 0 t (omega arith)) (sym (neighbours_fall t ts h.0 h.1 h.2))

-- The place of a job: the first position at which it stands.
first_position_is_placed : (u : ℕ) (ts : List ℕ) → position_or_len (λ t. eqb t u) ts < length ts → IsPlaceOf u ts (Some (position_or_len (λ t. eqb t u) ts))
first_position_is_placed u [] l = absurd (omega arith)
first_position_is_placed u (t ∷ ts) l =
    ⊎_elim
    (λ (e : eqb t u ≡ true). rw e (refl, omega arith, refl))
    (λ (e : eqb t u ≡ false).
    let p = first_position_is_placed u ts (omega (arith, rw e at l)) in
    let next : 1 + position_or_len (λ t. eqb t u) ts ≡ suc (position_or_len (λ t. eqb t u) ts) = omega arith in
    rw (e, next) (p.0, omega (arith, p.1), ap (λ us. t ∷ us) p.2))
    (cases_Bool (eqb t u))

not_among_where_no_position : (u : ℕ) (ts : List ℕ) → length ts ≤ position_or_len (λ t. eqb t u) ts → among u ts ≡ false
not_among_where_no_position u [] l = refl
not_among_where_no_position u (t ∷ ts) l =
    ⊎_elim
    (λ (e : eqb t u ≡ true). absurd (omega (arith, rw e at l)))
    (λ (e : eqb t u ≡ false). rw e (not_among_where_no_position u ts (omega (arith, rw e at l))))
    (cases_Bool (eqb t u))

pub position_is_placed : (u : ℕ) (ts : List ℕ) (found : Option ℕ) → found ≡ position (λ t. eqb t u) ts → IsPlaceOf u ts found
position_is_placed u ts found h =
    let first = position_or_len (λ t. eqb t u) ts in
    elim (cases_lt first (length ts)) [
      | inl l ↦ rw (h, lt-ltb first (length ts) l) (first_position_is_placed u ts l)
      | inr l ↦ rw (h, le-ltb first (length ts) l) (not_among_where_no_position u ts l)
    ]

-- Some bit is set of the mask that tells the places of a job.
set_bit_is_no_0 : (b : Bool) (n : ℕ) → not (eqb (cond b 1 0 + 2 * n) 0) ≡ (b || not (eqb n 0))
set_bit_is_no_0 true n = grind (arith, nat_tests)
set_bit_is_no_0 false n = grind (arith, nat_tests)

pub some_bit_is_the_job : (u : ℕ) (ts : List ℕ) → not (eqb (mask_l (map (λ t. eqb t u) ts)) 0) ≡ among u ts
some_bit_is_the_job u [] = refl
some_bit_is_the_job u (t ∷ ts) = set_bit_is_no_0 (eqb t u) (mask_l (map (λ t. eqb t u) ts)) ∙ ap (λ b. eqb t u || b) (some_bit_is_the_job u ts)
