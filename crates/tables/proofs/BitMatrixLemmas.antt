-- Writing a bit matrix: one mark, the marks of a row, those of all rows.
use Rattle.std.proofs.Common.{◌≡◌, ℕ, ◌+◌, ◌*◌, ◌/◌, ◌%◌, ◌^◌, ◌<◌, ◌≤◌, Bool, true, false, ◌&&◌, ◌||◌, eqb, bit_or, List, [], ◌∷◌, ◌++◌, length, replicate, get_or, set, slice_index, slice_set, refl, sym, ap, ◌∙◌, subst, inl, inr, arith}
use Rattle.std.proofs.lemmas.Bool.{cases_Bool, cases_eq, eq-eqb, ne_eqb, eqb-true, or_right, or_left, or_from, and_parts, and_from, and_left, and_right, false_from_ne_true}
use Rattle.std.proofs.lemmas.List.{get_or-set_same, get_or-set_other}
use Rattle.std.proofs.lemmas.Nat.Bits.{bit_at_set_same, bit_at_set_other}
use Rattle.std.specs.Int.{bit_at, w64}
use Rattle.std.proofs.lemmas.Bool.{lt-ltb, le-ltb, cases_order, cases_lt}
use Rattle.std.proofs.lemmas.List.{append_assoc, append-nil, length_push, length-append, get_or_past}
use Rattle.std.proofs.lemmas.Nat.Bits.{bit_at-zero}
use Rattle.std.proofs.Common.{ltb, zero, suc}
use Rattle.rows.specs.Waiting.{Waiting, idle, at, among}
use Rattle.tables.specs.Tables.{IsTable}
use Rattle.tables.proofs.TargetLemmas.{among_push}
use Rattle.tables.specs.BitMatrix.{is_marked, MarkedToo, RowMarked, MarksWaits}

-- Nothing more is true.
pub or_none : (a b c : Bool) → c ≡ false → a ≡ b → a ≡ (b || c)
or_none a b c n e =
    elim (cases_Bool b) [
      | inl t ↦ e ∙ t ∙ sym (or_left b c t)
      | inr f ↦ e ∙ f ∙ sym (or_from b c f n)
    ]

pub or_some : (a b c : Bool) → c ≡ true → a ≡ true → a ≡ (b || c)
or_some a b c t e = e ∙ sym (or_right b c t)

-- A bit after another was set.
bit_is_set_too : (n k i : ℕ) → k < 64 → eqb (bit_at (bit_or n (1 * 2 ^ k % 2 ^ 64)) i) 1 ≡ (eqb (bit_at n i) 1 || eqb i k)
bit_is_set_too n k i l =
    elim (cases_eq i k) [
      | inl e ↦ or_some _ (eqb (bit_at n i) 1) (eqb i k) (eq-eqb i k e)
          (eq-eqb _ 1 (ap (λ (j : ℕ). bit_at (bit_or n (1 * 2 ^ k % 2 ^ 64)) j) e ∙ bit_at_set_same w64 n k l))
      | inr ne ↦ or_none _ (eqb (bit_at n i) 1) (eqb i k) (ne_eqb i k ne)
          (ap (λ (b : ℕ). eqb b 1) (bit_at_set_other w64 n k l i ne))
    ]

-- Two waiters with the same word have the same bit exactly if they are the same.
same_bit : (t u v w : ℕ) → t ≡ u → v / 64 ≡ w / 64 → eqb (v % 64) (w % 64) ≡ (eqb t u && eqb v w)
same_bit t u v w tu part =
    elim (cases_eq (v % 64) (w % 64)) [
      | inl e ↦ eq-eqb (v % 64) (w % 64) e ∙ sym (and_from (eqb t u) (eqb v w) (eq-eqb t u tu) (eq-eqb v w (omega arith)))
      | inr ne ↦ ne_eqb (v % 64) (w % 64) ne ∙ sym (and_right (eqb t u) (eqb v w) (ne_eqb v w (λ (s : v ≡ w). ne (ap (λ (x : ℕ). x % 64) s))))
    ]

-- The word of another place is as it was, and so are its bits.
other_place : (t u v w : ℕ) → (t * 4 + v / 64 ≡ u * 4 + w / 64 → ⊥) → (eqb t u && eqb v w) ≡ false
other_place t u v w ne =
    false_from_ne_true (eqb t u && eqb v w)
    (λ (both : (eqb t u && eqb v w) ≡ true).
    let p = and_parts (eqb t u) (eqb v w) both in
    let tu = eqb-true t u p.0 in
    let vw = eqb-true v w p.1 in
    ne (ap (λ (x : ℕ). x * 4 + v / 64) tu ∙ ap (λ (x : ℕ). u * 4 + x / 64) vw))

pub mark_is_set_too : (words : List ℕ) (u w : ℕ) → u * 4 + w / 64 < length words → w < 256
    → MarkedToo u w words (slice_set words (u * 4 + w / 64) (bit_or (slice_index words (u * 4 + w / 64)) (1 * 2 ^ (w % 64) % 2 ^ 64)))
mark_is_set_too words u w within lw t v lv =
    let place : ℕ = u * 4 + w / 64 in
    let old : ℕ = slice_index words place in
    let word : ℕ = bit_or old (1 * 2 ^ (w % 64) % 2 ^ 64) in
    elim (cases_eq (t * 4 + v / 64) (u * 4 + w / 64)) [
      | inl e ↦
          let tu : t ≡ u = omega arith in
          let part : v / 64 ≡ w / 64 = omega arith in
          let now : get_or (set words place word) (t * 4 + v / 64) 0 ≡ word =
          ap (λ (i : ℕ). get_or (set words place word) i 0) e ∙ get_or-set_same words place word 0 within in
          let was : get_or words (t * 4 + v / 64) 0 ≡ old = ap (λ (i : ℕ). get_or words i 0) e in
          ap (λ (n : ℕ). eqb (bit_at n (v % 64)) 1) now
          ∙ bit_is_set_too old (w % 64) (v % 64) (omega arith)
          ∙ ap (λ (n : ℕ). eqb (bit_at n (v % 64)) 1 || eqb (v % 64) (w % 64)) (sym was)
          ∙ ap (λ (b : Bool). eqb (bit_at (get_or words (t * 4 + v / 64) 0) (v % 64)) 1 || b) (same_bit t u v w tu part)
      | inr ne ↦
          or_none _ (is_marked words t v) (eqb t u && eqb v w) (other_place t u v w ne)
          (ap (λ (n : ℕ). eqb (bit_at n (v % 64)) 1) (get_or-set_other words place (t * 4 + v / 64) word 0 ne))
    ]

-- From target to target: those in front are marked.
pub record RowFront (targets left : List ℕ) (waiter count : ℕ) (was is : List ℕ) : Type 0 where
  pub front : List ℕ
  pub all : front ++ left ≡ targets
  pub counted : count ≡ length front
  pub marked : RowMarked front waiter was is

pub none_is_marked_at_first : {targets left : List ℕ} {waiter : ℕ} {was : List ℕ} → left ≡ targets → RowFront targets left waiter 0 was was
none_is_marked_at_first {waiter = waiter} {was = was} e = record {
  front = [];
  all = e;
  counted = refl;
  marked = λ t v l. or_none _ (is_marked was t v) (eqb v waiter && false) (and_right (eqb v waiter) false refl) refl;
}

eqb_turned : (a b : ℕ) → eqb a b ≡ eqb b a
eqb_turned a b =
    elim (cases_eq a b) [
      | inl e ↦ eq-eqb a b e ∙ sym (eq-eqb b a (sym e))
      | inr ne ↦ ne_eqb a b ne ∙ sym (ne_eqb b a (λ (e : b ≡ a). ne (sym e)))
    ]

regrouped : (a b c d : Bool) → ((a || (b && c)) || (d && b)) ≡ (a || (b && (c || d)))
regrouped true b c d = refl
regrouped false true true d = refl
regrouped false true false true = refl
regrouped false true false false = refl
regrouped false false c true = refl
regrouped false false c false = refl

module _ {targets left : List ℕ} {waiter count : ℕ} {was is : List ℕ} (walked : RowFront targets left waiter count was is) where
  module _ {x : ℕ} {rest : List ℕ} (next : left ≡ x ∷ rest) where
    pub next_is_in_row : count < length targets
    next_is_in_row = omega (arith, walked.counted, ap length walked.all, length-append walked.front left, ap length next)

    pub next_is_marked_too : {last : List ℕ} → MarkedToo x waiter is last → RowFront targets rest waiter (count + 1) was last
    next_is_marked_too {last} too = record {
      front = walked.front ++ x ∷ [];
      all = append_assoc walked.front (x ∷ []) rest ∙ ap (λ (ns : List ℕ). walked.front ++ ns) (sym next) ∙ walked.all;
      counted = omega (arith, walked.counted, length_push walked.front x);
      marked = λ t v l.
          too t v l
          ∙ ap (λ (b : Bool). b || (eqb t x && eqb v waiter)) (walked.marked t v l)
          ∙ regrouped (is_marked was t v) (eqb v waiter) (among t walked.front) (eqb t x)
          ∙ ap (λ (b : Bool). is_marked was t v || (eqb v waiter && b))
          (ap (λ (b : Bool). among t walked.front || b) (eqb_turned t x) ∙ sym (among_push t x walked.front));
    }

  -- Where no target is left, all are marked.
  pub all_are_in_front : left ≡ [] → walked.front ≡ targets
  all_are_in_front none = sym (append-nil walked.front) ∙ ap (λ (ns : List ℕ). walked.front ++ ns) (sym none) ∙ walked.all

  pub row_is_counted : left ≡ [] → count ≡ length targets
  row_is_counted none = walked.counted ∙ ap length (all_are_in_front none)

  pub row_is_marked : left ≡ [] → RowMarked targets waiter was is
  row_is_marked none = subst (λ (ns : List ℕ). RowMarked ns waiter was is) (all_are_in_front none) walked.marked

-- From row to row: the waits of the jobs below a number are marked.
abbrev pub MarkedBelow : List Waiting → List ℕ → ℕ → Type 0
MarkedBelow rows words job = (t v : ℕ) → v < 256 → is_marked words t v ≡ (ltb v job && among t (at rows v).targets)

pub blank_marks_none : (rows : List Waiting) (n : ℕ) (words : List ℕ) → words ≡ replicate {A = ℕ} n 0 → MarkedBelow rows words 0
blank_marks_none rows n words e t v l =
    let zero_word : get_or words (t * 4 + v / 64) 0 ≡ 0 = ap (λ (ns : List ℕ). get_or ns (t * 4 + v / 64) 0) e ∙ zero_of n (t * 4 + v / 64) in
    ap (λ (w : ℕ). eqb (bit_at w (v % 64)) 1) zero_word
    ∙ ap (λ (b : ℕ). eqb b 1) (bit_at-zero (v % 64))
    ∙ sym (and_left (ltb v 0) (among t (at rows v).targets) (le-ltb v 0 (omega arith)))
  where
    zero_of : (n i : ℕ) → get_or (replicate {A = ℕ} n 0) i 0 ≡ 0
    zero_of zero i = refl
    zero_of (suc n) zero = refl
    zero_of (suc n) (suc i) = zero_of n i

pub one_row_more_is_marked : (rows : List Waiting) (job : ℕ) (was is : List ℕ) → MarkedBelow rows was job → RowMarked (at rows job).targets job was is → MarkedBelow rows is (job + 1)
one_row_more_is_marked rows job was is below row t v l =
    let a : Bool = among t (at rows v).targets in
    row t v l ∙ ap (λ (b : Bool). b || (eqb v job && among t (at rows job).targets)) (below t v l)
    ∙ elim (cases_order v job) [
      | inl e ↦
          ap (λ (b : Bool). (b && a) || (eqb v job && among t (at rows job).targets)) (le-ltb v job (omega arith))
          ∙ ap (λ (b : Bool). b && among t (at rows job).targets) (eq-eqb v job e)
          ∙ ap (λ (j : ℕ). among t (at rows j).targets) (sym e)
          ∙ sym (ap (λ (b : Bool). b && a) (lt-ltb v (job + 1) (omega arith)))
      | inr o ↦ elim o [
        | inl lt ↦
            sym (or_none (ltb v (job + 1) && a) (ltb v job && a) (eqb v job && among t (at rows job).targets)
            (and_left (eqb v job) (among t (at rows job).targets) (ne_eqb v job (λ (s : v ≡ job). omega arith)))
            (ap (λ (b : Bool). b && a) (lt-ltb v (job + 1) (omega arith) ∙ sym (lt-ltb v job lt))))
        | inr gt ↦
            sym (or_none (ltb v (job + 1) && a) (ltb v job && a) (eqb v job && among t (at rows job).targets)
            (and_left (eqb v job) (among t (at rows job).targets) (ne_eqb v job (λ (s : v ≡ job). omega arith)))
            (ap (λ (b : Bool). b && a) (le-ltb v (job + 1) (omega arith) ∙ sym (le-ltb v job (omega arith)))))
      ]
    ]

pub all_rows_are_marked : (rows : List Waiting) (words : List ℕ) (jobs : ℕ) → IsTable rows → length rows ≤ jobs → MarkedBelow rows words jobs → MarksWaits rows words
all_rows_are_marked rows words jobs table l below = record {
  table = table;
  exact = λ u w h. below u w h ∙ elim (cases_lt w jobs) [
    | inl b ↦ ap (λ (x : Bool). x && among u (at rows w).targets) (lt-ltb w jobs b)
    | inr a ↦ and_left (ltb w jobs) (among u (at rows w).targets) (le-ltb w jobs a) ∙ sym (ap (λ (row : Waiting). among u row.targets) (get_or_past rows w idle (omega arith)))
  ];
}
