-- Stored rows are decided by what they say, and so comparing two is comparing what they say.
use Rattle.std.proofs.Common.{◌≡◌, ℕ, zero, suc, Bool, true, eqb, ◌&&◌, List, [], ◌∷◌, length, map, take, sym, refl, ap, ◌∙◌, subst, arith}
use Rattle.std.specs.Bool.{Decides}
use Rattle.std.specs.Cmp.Lexicographic.{pointwise}
use Rattle.std.proofs.lemmas.Bool.{and_parts, and_from}
use Rattle.std.proofs.lemmas.Bool.Decides.{Decides-eqb, Decides-and, Decides-like, same_from_decides}
use Rattle.std.proofs.lemmas.List.{length-take-le}
use Rattle.std.proofs.lemmas.Slice.Eq.{slice_eq-Decides}
use Rattle.rows.specs.declared.plain.PlainRow.{PlainRow}
use Rattle.rows.specs.declared.plain.Row.{Row}
use Rattle.rows.specs.Waiting.{Waiting}
use Rattle.rows.specs.Storage.{sound}
use Rattle.rows.specs.StoredRows.{waiting, waiting_of, places_of, stored_as, all_sound, says_same, StoredWhole}
use Rattle.rows.proofs.Places.{places_tell, fitting_places_are_decided}
use Rattle.rows.proofs.StoredRowLemmas.{sound_parts}

-- A sound stored row is decided by what it says.
pub sound_is_stored_as : (p : PlainRow) → sound p.need p.count p.targets ≡ true → p ≡ stored_as (waiting p)
sound_is_stored_as p h =
    let fit = (sound_parts p.need p.count p.targets h).0 in
    let places = places_tell p.count p.targets fit in
    let used : length (take p.count p.targets) ≡ p.count = length-take-le p.count p.targets (omega (arith, places.whole, places.few)) in
    let same = fitting_places_are_decided p.count p.targets fit in
    subst (λ (count : ℕ). p ≡ record { need = p.need; count = count; targets = places_of (take p.count p.targets) }) (sym used)
    (ap (λ (places : List ℕ). record { need = p.need; count = p.count; targets = places }) same)

pub says_same_is_same : (p q : PlainRow) → sound p.need p.count p.targets ≡ true → sound q.need q.count q.targets ≡ true → waiting p ≡ waiting q → p ≡ q
says_same_is_same p q h k e = sound_is_stored_as p h ∙ ap stored_as e ∙ sym (sound_is_stored_as q k)

-- So it is of each of several, also of the first ones alone.
pub all_sound_are_stored_as : (rows : List PlainRow) → all_sound rows ≡ true → rows ≡ map stored_as (map waiting rows)
all_sound_are_stored_as [] h = refl
all_sound_are_stored_as (p ∷ rows) h =
    let parts = and_parts (sound p.need p.count p.targets) (all_sound rows) h in
    cons_equal p (stored_as (waiting p)) rows (map stored_as (map waiting rows)) (sound_is_stored_as p parts.0) (all_sound_are_stored_as rows parts.1)
  where
    cons_equal : (x y : PlainRow) (xs ys : List PlainRow) → x ≡ y → xs ≡ ys → x ∷ xs ≡ y ∷ ys
    cons_equal x y xs ys e f = cc

pub first_ones_are_sound : (n : ℕ) (rows : List PlainRow) → all_sound rows ≡ true → all_sound (take n rows) ≡ true
first_ones_are_sound zero rows h = refl
first_ones_are_sound (suc n) [] h = refl
first_ones_are_sound (suc n) (p ∷ rows) h =
    let parts = and_parts (sound p.need p.count p.targets) (all_sound rows) h in
    and_from (sound p.need p.count p.targets) (all_sound (take n rows)) parts.0 (first_ones_are_sound n rows parts.1)

-- Comparing two sound stored rows, part by part, is comparing what they say.
parts_decide : (p q : PlainRow) → Decides (eqb p.need q.need && (eqb p.count q.count && pointwise eqb p.targets q.targets)) (p ≡ q)
parts_decide p q =
    let needs = eqb p.need q.need in
    let counts = eqb p.count q.count in
    let places = pointwise eqb p.targets q.targets in
    let lists : Decides places (p.targets ≡ q.targets) = slice_eq-Decides Decides-eqb p.targets q.targets places refl in
    Decides-like (needs && (counts && places))
    (λ (e : (p.need ≡ q.need) × ((p.count ≡ q.count) × (p.targets ≡ q.targets))). parts_equal p.need q.need p.count q.count p.targets q.targets e.0 e.1.0 e.1.1)
    (λ (e : p ≡ q). (ap (λ (x : PlainRow). x.need) e, (ap (λ (x : PlainRow). x.count) e, ap (λ (x : PlainRow). x.targets) e)))
    (Decides-and needs (counts && places) (Decides-eqb p.need q.need) (Decides-and counts places (Decides-eqb p.count q.count) lists))
  where
    parts_equal : (m n c d : ℕ) (xs ys : List ℕ) → m ≡ n → c ≡ d → xs ≡ ys → ◌≡◌ {A = PlainRow} (record { need = m; count = c; targets = xs }) (record { need = n; count = d; targets = ys })
    parts_equal m n c d xs ys e f g = rw (e, f, g) refl

says_decide : (r s : Row) → Decides (says_same r s) (waiting_of r ≡ waiting_of s)
says_decide r s =
    let v = waiting_of r in
    let w = waiting_of s in
    let needs = eqb v.need w.need in
    let targets = pointwise eqb v.targets w.targets in
    let lists : Decides targets (v.targets ≡ w.targets) = slice_eq-Decides Decides-eqb v.targets w.targets targets refl in
    Decides-like (needs && targets)
    (λ (e : (v.need ≡ w.need) × (v.targets ≡ w.targets)). parts_equal v.need w.need v.targets w.targets e.0 e.1)
    (λ (e : v ≡ w). (ap (λ (x : Waiting). x.need) e, ap (λ (x : Waiting). x.targets) e))
    (Decides-and needs targets (Decides-eqb v.need w.need) lists)
  where
    parts_equal : (m n : ℕ) (xs ys : List ℕ) → m ≡ n → xs ≡ ys → ◌≡◌ {A = Waiting} (record { need = m; targets = xs }) (record { need = n; targets = ys })
    parts_equal m n xs ys e f = rw (e, f) refl

pub stored_rows_are_compared_by_what_they_say : (r s : Row) (same : Bool) → same ≡ (eqb r.plain.need s.plain.need && (eqb r.plain.count s.plain.count && pointwise eqb r.plain.targets s.plain.targets)) → same ≡ says_same r s
stored_rows_are_compared_by_what_they_say r s same h =
    let parts = eqb r.plain.need s.plain.need && (eqb r.plain.count s.plain.count && pointwise eqb r.plain.targets s.plain.targets) in
    let decided : Decides parts (waiting_of r ≡ waiting_of s) =
    Decides-like parts (λ (e : r.plain ≡ s.plain). ap waiting e) (says_same_is_same r.plain s.plain r.lawful s.lawful) (parts_decide r.plain s.plain) in
    h ∙ same_from_decides parts (says_same r s) decided (says_decide r s)

pub is_stored_whole : (r : Row) → StoredWhole r r.plain
is_stored_whole r = record {
  value = sound_is_stored_as r.plain r.lawful;
  lawful = r.lawful;
  decided = λ q h. (λ e. ap waiting e, λ e. says_same_is_same q r.plain h r.lawful e);
}
