-- Looking through targets, place by place.
use Rattle.std.proofs.Common.{◌≡◌, ℕ, zero, suc, ◌+◌, ◌-◌, ◌<◌, ◌≤◌, Bool, true, false, ◌||◌, eqb, List, [], ◌∷◌, ◌++◌, length, get_or, take, drop, slice_range, Some, None, Option, MatchOption, sym, ap, ◌∙◌, add-one, arith}
use Rattle.std.proofs.lemmas.List.{at_drop_all, drop_all, drop_more, take_all}
use Rattle.std.proofs.lemmas.Option.{slice_get_past, slice_get-get_or}
use Rattle.std.proofs.lemmas.Bool.{or_right, eq-eqb}
use Rattle.std.proofs.lemmas.Bool.Decides.{nat_tests}
use Rattle.std.specs.List.{filter_map, list_any, range_with_len}
use Rattle.std.specs.declared.ops.Range.{Range}
use Rattle.rows.proofs.Reading.{target_at_is_get}
use Rattle.rows.specs.Waiting.{among}
use Rattle.rows.specs.Places.{target_at}

-- There is a target at a place just when the place is within.
pub no_target_is_past : (ts : List ℕ) (place : ℕ) → None ≡ target_at ts place → length ts ≤ place
no_target_is_past [] place e = omega arith
no_target_is_past (x ∷ xs) zero e = let z : ◌≡◌ {A = ℕ} 0 1 = cc in absurd (omega arith)
no_target_is_past (x ∷ xs) (suc place) e = omega (arith, no_target_is_past xs place e)

pub target_past_is_none : (ts : List ℕ) (place : ℕ) → length ts ≤ place → target_at ts place ≡ None
target_past_is_none ts place l = target_at_is_get ts place ∙ slice_get_past ts place l

-- A target is among the targets.
pub target_is_among : (ts : List ℕ) (place t : ℕ) → target_at ts place ≡ Some t → among t ts ≡ true
target_is_among [] place t e = let z : ◌≡◌ {A = ℕ} 0 1 = cc in absurd (omega arith)
target_is_among (x ∷ xs) zero t e = let z : x ≡ t = cc in rw (eq-eqb x t z)
target_is_among (x ∷ xs) (suc place) t e = or_right (eqb x t) (among t xs) (target_is_among xs place t e)

-- A target is the head of what is left from its place on.
pub target_heads_the_rest : (ts : List ℕ) (place t : ℕ) → target_at ts place ≡ Some t → drop place ts ≡ t ∷ drop (suc place) ts
target_heads_the_rest [] place t e = let z : ◌≡◌ {A = ℕ} 0 1 = cc in absurd (omega arith)
target_heads_the_rest (x ∷ xs) zero t e = let z : x ≡ t = cc in ap (λ (y : ℕ). y ∷ xs) z
target_heads_the_rest (x ∷ xs) (suc place) t e = target_heads_the_rest xs place t e

-- The targets by their places, and whether some is a job.
pub targets_by_place : (ts : List ℕ) (n place : ℕ) → place + n ≡ length ts → filter_map (target_at ts) (range_with_len place n) ≡ drop place ts
targets_by_place ts zero place l = sym (drop_all place ts (omega arith))
targets_by_place ts (suc n) place l =
    let within : place < length ts = omega arith in
    let here : target_at ts place ≡ Some (get_or ts place 0) = target_at_is_get ts place ∙ slice_get-get_or ts place 0 within in
    rw here (ap (λ rest. get_or ts place 0 ∷ rest) (targets_by_place ts n (place + 1) (omega arith))) ∙ sym (drop_more ts place 0 within)

-- Whether a place has a job as its target.
abbrev pub is_target : ℕ → Option ℕ → Bool
is_target u None = false
is_target u (Some t) = eqb t u

-- Some place has a job just where some target is the job.
pub some_place_has_it : (u : ℕ) (ts : List ℕ) (n place : ℕ) → place + n ≡ length ts → list_any (λ p. is_target u (target_at ts p)) (range_with_len place n) ≡ list_any (λ t. eqb t u) (drop place ts)
some_place_has_it u ts zero place l = ap (list_any (λ t. eqb t u)) (sym (drop_all place ts (omega arith)))
some_place_has_it u ts (suc n) place l =
    let within : place < length ts = omega arith in
    let here : target_at ts place ≡ Some (get_or ts place 0) = target_at_is_get ts place ∙ slice_get-get_or ts place 0 within in
    rw here (ap (λ rest. eqb (get_or ts place 0) u || rest) (some_place_has_it u ts n (place + 1) (omega arith))) ∙ ap (list_any (λ t. eqb t u)) (sym (drop_more ts place 0 within))

-- What is left from one place up to another, at a target and past the last.
pub targets_left_at_a_target : (ts : List ℕ) (from to t : ℕ) → from < to → target_at ts from ≡ Some t → slice_range ts from to ≡ t ∷ slice_range ts (from + 1) to
targets_left_at_a_target ts from to t l e =
    let more : to - from ≡ suc (to - (from + 1)) = omega arith in
    rw (more, target_heads_the_rest ts from t e, add-one from)

pub no_targets_left_past_the_last : (ts : List ℕ) (from to : ℕ) → length ts ≤ from → slice_range ts from to ≡ []
no_targets_left_past_the_last ts from to l = at_drop_all (take (to - from)) ts from l ∙ take_all (to - from) [] (omega arith)

-- A step of a walk through targets, at a place.
pub target_walk_steps : (ts : List ℕ) (places later : Range ℕ) (place : ℕ) (found : Option ℕ)
    → (later.end ≡ places.end) × ((0 < places.end - places.start) × (place ≡ places.start) × (later.start ≡ places.start + 1)) → found ≡ target_at ts place
    → MatchOption found ((slice_range ts places.start places.end ≡ []) × (slice_range ts later.start later.end ≡ [])) (λ t. slice_range ts places.start places.end ≡ t ∷ slice_range ts later.start later.end)
target_walk_steps ts places later place None h e =
    let past = no_target_is_past ts place e in
    (no_targets_left_past_the_last ts places.start places.end (omega (arith, h.1.1)), no_targets_left_past_the_last ts later.start later.end (omega (arith, h.1.1, h.1.2)))
target_walk_steps ts places later place (Some t) h e =
    let l : places.start < places.end = omega (arith, h.1.0) in
    rw (h.0, h.1.2) (targets_left_at_a_target ts places.start places.end t l (rw h.1.1 at (sym e)))

-- A target behind others.
pub among_push : (t x : ℕ) (front : List ℕ) → among t (front ++ x ∷ []) ≡ (among t front || eqb x t)
among_push t x [] = grind (arith, nat_tests)
among_push t x (y ∷ front) = let rest = among_push t x front in rw rest (grind (arith, nat_tests))
