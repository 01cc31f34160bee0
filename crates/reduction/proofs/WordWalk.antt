-- From word to word, and from bit to bit of one word: which waiters of a job are left.
use Rattle.std.proofs.Common.{◌≡◌, ℕ, ◌+◌, ◌*◌, ◌/◌, ◌%◌, ◌^◌, ◌<◌, ◌≤◌, Bool, true, false, not, ◌&&◌, ◌||◌, eqb, leb, bit_and, List, length, sym, refl, ap, ◌∙◌, inl, inr, arith}
use Rattle.std.proofs.lemmas.Bool.{cases_Bool, cases_eq, cases_lt, eq-eqb, ne_eqb, le-leb, lt-leb, and_left, and_right, and_from, or_left, or_from, true≢false, false_from_ne_true}
use Rattle.std.proofs.lemmas.Nat.{and_le_l}
use Rattle.std.proofs.lemmas.Nat.Bits.{bit_at-zero, bit_at-trailing_zeros, bit_at_clear_same, bit_at_clear_other}
use Rattle.std.specs.Int.{bit_at, bit_not, w64, trailing_zeros}
use Rattle.rows.specs.Waiting.{Waiting, at, among}
use Rattle.tables.specs.BitMatrix.{ShowsWaiters}
use Rattle.tables.proofs.Laws.{who_waits_is_a_job}

-- The waiters from a word on.
abbrev pub left_from : List Waiting → (job word : ℕ) → ℕ → Bool
left_from rows job word v = among job (at rows v).targets && leb (word * 64) v

-- Those of the bits that are left of a word, and those behind it.
abbrev pub left_in : List Waiting → (job word bits : ℕ) → ℕ → Bool
left_in rows job word bits v = (eqb (v / 64) word && eqb (bit_at bits (v % 64)) 1) || left_from rows job (word + 1) v

and_true : (a b : Bool) → b ≡ true → (a && b) ≡ a
and_true a b e = elim (cases_Bool a) [ inl t ↦ and_from a b t e ∙ sym t | inr f ↦ and_left a b f ∙ sym f ]

module _ (rows : List Waiting) (job : ℕ) where
  pub all_are_left : (v : ℕ) → among job (at rows v).targets ≡ left_from rows job 0 v
  all_are_left v = sym (and_true (among job (at rows v).targets) (leb (0 * 64) v) (le-leb (0 * 64) v (omega arith)))

  pub none_is_left : length rows ≤ 256 → (v : ℕ) → left_from rows job 4 v ≡ false
  none_is_left few v =
      false_from_ne_true (left_from rows job 4 v)
      (λ e. elim (cases_lt v (4 * 64)) [
        | inl l ↦ true≢false (sym e ∙ and_right (among job (at rows v).targets) (leb (4 * 64) v) (lt-leb (4 * 64) v l))
        | inr h ↦ absurd (omega (arith, who_waits_is_a_job rows v job (sym (and_true (among job (at rows v).targets) (leb (4 * 64) v) (le-leb (4 * 64) v h)) ∙ e), few))
      ])

  module _ (word : ℕ) where
    -- A word's bits are left before the first is taken.
    pub word_is_left : (bits : ℕ) → ShowsWaiters rows job word bits → (v : ℕ) → left_from rows job word v ≡ left_in rows job word bits v
    word_is_left bits shows v = elim (cases_eq (v / 64) word) [
      | inl e ↦
          let there : word * 64 + v % 64 ≡ v = omega arith in
          let bit : eqb (bit_at bits (v % 64)) 1 ≡ among job (at rows v).targets = shows (v % 64) (omega arith) ∙ ap (λ (w : ℕ). among job (at rows w).targets) there in
          and_true (among job (at rows v).targets) (leb (word * 64) v) (le-leb (word * 64) v (omega arith))
          ∙ sym bit
          ∙ sym (left_of_or (eqb (v / 64) word && eqb (bit_at bits (v % 64)) 1) (left_from rows job (word + 1) v)
          (and_right (among job (at rows v).targets) (leb ((word + 1) * 64) v) (lt-leb ((word + 1) * 64) v (omega arith)))
          ∙ (rw (eq-eqb (v / 64) word e) refl))
      | inr ne ↦
          sym (or_first_false (eqb (v / 64) word && eqb (bit_at bits (v % 64)) 1) (left_from rows job (word + 1) v) (and_left (eqb (v / 64) word) (eqb (bit_at bits (v % 64)) 1) (ne_eqb (v / 64) word ne))
          ∙ elim (cases_lt v (word * 64)) [
            | inl l ↦ ap (λ (b : Bool). among job (at rows v).targets && b) (lt-leb ((word + 1) * 64) v (omega arith) ∙ sym (lt-leb (word * 64) v l))
            | inr h ↦ ap (λ (b : Bool). among job (at rows v).targets && b) (le-leb ((word + 1) * 64) v (omega arith) ∙ sym (le-leb (word * 64) v h))
          ])
    ]
      where
        left_of_or : (a b : Bool) → b ≡ false → (a || b) ≡ a
        left_of_or a b f = elim (cases_Bool a) [ inl t ↦ or_left a b t ∙ sym t | inr n ↦ or_from a b n f ∙ sym n ]

        or_first_false : (a b : Bool) → a ≡ false → (a || b) ≡ b
        or_first_false a b f = rw f refl

    -- Where no bit is left, the word is through.
    pub word_is_through : (v : ℕ) → left_in rows job word 0 v ≡ left_from rows job (word + 1) v
    word_is_through v =
        let none : eqb (bit_at 0 (v % 64)) 1 ≡ false = ap (λ (b : ℕ). eqb b 1) (bit_at-zero (v % 64)) in
        rw (and_right (eqb (v / 64) word) (eqb (bit_at 0 (v % 64)) 1) none) refl

    -- The job of the lowest bit is left, and is the only one that no longer is when that bit is cleared.
    module _ (bits : ℕ) (some : 0 < bits) (small : bits < 2 ^ 64) where
      lowest : (trailing_zeros w64 bits < 64) × (bit_at bits (trailing_zeros w64 bits) ≡ 1)
      lowest = let t = bit_at-trailing_zeros w64 bits some small in (t.0, t.1)

      part : (word * 64 + trailing_zeros w64 bits) / 64 ≡ word
      part = omega (arith, lowest.0)

      bit : (word * 64 + trailing_zeros w64 bits) % 64 ≡ trailing_zeros w64 bits
      bit = omega (arith, lowest.0)

      pub lowest_is_left : left_in rows job word bits (word * 64 + trailing_zeros w64 bits) ≡ true
      lowest_is_left =
          or_left _ _ (and_from _ _ (eq-eqb _ word part) (eq-eqb _ 1 (ap (λ (i : ℕ). bit_at bits i) bit ∙ lowest.1)))

      pub lowest_is_taken : (v : ℕ) → left_in rows job word (bit_and bits (bit_not w64 (1 * 2 ^ trailing_zeros w64 bits % 2 ^ 64))) v ≡ (left_in rows job word bits v && not (eqb v (word * 64 + trailing_zeros w64 bits)))
      lowest_is_taken v =
          let x : ℕ = word * 64 + trailing_zeros w64 bits in
          let cleared : ℕ = bit_and bits (bit_not w64 (1 * 2 ^ trailing_zeros w64 bits % 2 ^ 64)) in
          elim (cases_eq v x) [
            | inl e ↦
                let none : eqb (bit_at cleared (v % 64)) 1 ≡ false =
                ap (λ (i : ℕ). eqb (bit_at cleared i) 1) (ap (λ (n : ℕ). n % 64) e ∙ bit)
                ∙ ap (λ (b : ℕ). eqb b 1) (bit_at_clear_same w64 bits (trailing_zeros w64 bits) lowest.0) in
                or_from _ _ (and_right _ _ none) (and_right _ _ (lt-leb ((word + 1) * 64) v (omega (arith, e, lowest.0))))
                ∙ sym (and_right (left_in rows job word bits v) (not (eqb v x)) (ap not (eq-eqb v x e)))
            | inr ne ↦
                same_elsewhere v ne ∙ sym (and_true (left_in rows job word bits v) (not (eqb v x)) (ap not (ne_eqb v x ne)))
          ]
        where
          same_elsewhere : (v : ℕ) → (v ≡ word * 64 + trailing_zeros w64 bits → ⊥) → left_in rows job word (bit_and bits (bit_not w64 (1 * 2 ^ trailing_zeros w64 bits % 2 ^ 64))) v ≡ left_in rows job word bits v
          same_elsewhere v ne = elim (cases_eq (v / 64) word) [
            | inl e ↦
                ap (λ (b : ℕ). (eqb (v / 64) word && eqb b 1) || left_from rows job (word + 1) v)
                (bit_at_clear_other w64 bits (trailing_zeros w64 bits) lowest.0 (v % 64) (omega arith) (λ (s : v % 64 ≡ trailing_zeros w64 bits). ne (omega arith)))
            | inr d ↦ rw (ne_eqb (v / 64) word d) refl
          ]

      pub fewer_bits : bit_and bits (bit_not w64 (1 * 2 ^ trailing_zeros w64 bits % 2 ^ 64)) < bits
      fewer_bits =
          let cleared : ℕ = bit_and bits (bit_not w64 (1 * 2 ^ trailing_zeros w64 bits % 2 ^ 64)) in
          elim (cases_lt cleared bits) [
            | inl l ↦ l
            | inr h ↦
                let same : cleared ≡ bits = omega (arith, and_le_l bits (bit_not w64 (1 * 2 ^ trailing_zeros w64 bits % 2 ^ 64))) in
                absurd (omega (arith, lowest.1, bit_at_clear_same w64 bits (trailing_zeros w64 bits) lowest.0, ap (λ (n : ℕ). bit_at n (trailing_zeros w64 bits)) same))
          ]
