-- Reading a target, and asking whether a job is one.
use Rattle.std.proofs.Common.{◌≡◌, ℕ, zero, suc, false, ◌||◌, eqb, List, [], ◌∷◌, take, Some, None, Option, slice_get, Bor, sym, refl, ap, ◌∙◌}
use Rattle.std.proofs.lemmas.Bool.{or_parts, or_from}
use Rattle.std.specs.List.{list_any}
use Rattle.std.proofs.lemmas.Option.{slice_get_past, slice_get-get_or}
use Rattle.std.specs.Option.{option_map}
use Rattle.std.specs.Slice.{IsGetResult}
use Rattle.rows.specs.Waiting.{among}
use Rattle.rows.specs.Places.{target_at}

-- The target at a place is what `get` gives, copied.
pub target_at_is_get : (ts : List ℕ) (place : ℕ) → target_at ts place ≡ slice_get ts place
target_at_is_get [] place = refl
target_at_is_get (t ∷ ts) zero = refl
target_at_is_get (t ∷ ts) (suc place) = target_at_is_get ts place

pub item_is_target : (ts : List ℕ) (place : ℕ) (item : Option (Bor ℕ)) → IsGetResult ts place place item → option_map (λ x. x.now) item ≡ target_at ts place
item_is_target ts place None h = sym (target_at_is_get ts place ∙ slice_get_past ts place h.3)
item_is_target ts place (Some x) h = ap Some h.1 ∙ sym (target_at_is_get ts place ∙ slice_get-get_or ts place x.now h.3.0)

-- Some target is the job just where the job is among the targets.
pub some_is_the_job : (u : ℕ) (ts : List ℕ) → list_any (λ t. eqb t u) ts ≡ among u ts
some_is_the_job u [] = refl
some_is_the_job u (t ∷ ts) = ap (λ b. eqb t u || b) (some_is_the_job u ts)

-- A job that stands at no place stands at none of the first.
pub not_among_first : (u n : ℕ) (ts : List ℕ) → among u ts ≡ false → among u (take n ts) ≡ false
not_among_first u zero ts a = refl
not_among_first u (suc n) [] a = refl
not_among_first u (suc n) (t ∷ ts) a =
    let p = or_parts (eqb t u) (among u ts) a in
    or_from (eqb t u) (among u (take n ts)) p.0 (not_among_first u n ts p.1)
