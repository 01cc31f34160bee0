-- The lowest bit of a word, from a place on, is the first mark from there on.
use Rattle.std.proofs.Common.{◌≡◌, ℕ, ◌+◌, ◌-◌, ◌*◌, ◌/◌, ◌%◌, ◌^◌, ◌<◌, ◌≤◌, true, false, eqb, List, length, slice_index, refl, sym, ap, ◌∙◌, subst, ◌⊎◌, inl, inr, arith}
use Rattle.std.proofs.lemmas.Bool.{cases_lt, eq-eqb, false_from_ne_true}
use Rattle.std.proofs.lemmas.Nat.{pow_pos, mod_below, shr_below}
use Rattle.std.proofs.lemmas.Nat.Bits.{bit_at_cat_high, bit_at-zero, bit_at_above, bit_at-trailing_zeros}
use Rattle.std.specs.Int.{bit_at, w64, trailing_zeros}
use Rattle.std.proofs.Math.Pow.{pow_mono}
use Rattle.std.proofs.Common.{Some, None}
use Rattle.rows.specs.Waiting.{Waiting, at, among}
use Rattle.tables.specs.Tables.{first_from}
use Rattle.tables.specs.Waits.{waiters}
use Rattle.tables.proofs.Laws.{who_waits_is_a_job, target_below}
use Rattle.tables.proofs.WaiterLemmas.{first_who_waits_is_the_first_waiter}
use Rattle.tables.specs.BitMatrix.{MarksWaits, ShowsWaiters, word_end}

-- The bits of a shifted word.
shifted_bit : (n k j : ℕ) → bit_at (n / 2 ^ k) j ≡ bit_at n (k + j)
shifted_bit n k j =
    let low = mod_below n (2 ^ k) (pow_pos k) in
    let high = bit_at_cat_high (n / 2 ^ k) k (n % 2 ^ k) (k + j) low (omega arith) in
    let same : (n / 2 ^ k) * 2 ^ k + n % 2 ^ k ≡ n = split n (2 ^ k) (pow_pos k) in
    let back : k + j - k ≡ j = omega arith in
    sym (sym (ap (λ (m : ℕ). bit_at m (k + j)) same) ∙ high ∙ ap (λ (i : ℕ). bit_at (n / 2 ^ k) i) back)
  where
    split : (n m : ℕ) → 0 < m → (n / m) * m + n % m ≡ n
    split n m l = omega arith

module _ {rows : List Waiting} {words : List ℕ} (marked : MarksWaits rows words) (u from : ℕ) (low : from < 256) (small : slice_index words (u * 4 + from / 64) < 2 ^ 64) where
  -- Its bits tell who waits.
  bits_tell : (j : ℕ) → from % 64 + j < 64 → eqb (bit_at (slice_index words (u * 4 + from / 64) / 2 ^ (from % 64)) j) 1 ≡ among u (at rows (from + j)).targets
  bits_tell j l =
      let part : (from + j) / 64 ≡ from / 64 = omega arith in
      let bit : (from + j) % 64 ≡ from % 64 + j = omega arith in
      ap (λ (b : ℕ). eqb b 1)
      (shifted_bit (slice_index words (u * 4 + from / 64)) (from % 64) j
      ∙ sym (ap (λ (p : ℕ). bit_at (slice_index words (u * 4 + p)) ((from + j) % 64)) part ∙ ap (λ (i : ℕ). bit_at (slice_index words (u * 4 + from / 64)) i) bit))
      ∙ marked.exact u (from + j) (omega arith)

  tells_at : (v : ℕ) → from ≤ v → v < word_end from → eqb (bit_at (slice_index words (u * 4 + from / 64) / 2 ^ (from % 64)) (v - from)) 1 ≡ among u (at rows v).targets
  tells_at v l h =
      let there : from + (v - from) ≡ v = omega arith in
      bits_tell (v - from) (omega arith) ∙ ap (λ (w : ℕ). among u (at rows w).targets) there

  -- Where no bit is left, none waits up to the end of the word.
  pub none_in_word : slice_index words (u * 4 + from / 64) / 2 ^ (from % 64) ≡ 0 → (v : ℕ) → from ≤ v → v < word_end from → among u (at rows v).targets ≡ false
  none_in_word e v l h =
      sym (tells_at v l h) ∙ ap (λ (b : ℕ). eqb b 1) (ap (λ (n : ℕ). bit_at n (v - from)) e ∙ bit_at-zero (v - from))

  -- Else the lowest bit is that of the first who waits.
  shifted_is_small : slice_index words (u * 4 + from / 64) / 2 ^ (from % 64) < 2 ^ (64 - from % 64)
  shifted_is_small =
      let all : (64 - from % 64) + from % 64 ≡ 64 = omega arith in
      shr_below (slice_index words (u * 4 + from / 64)) (64 - from % 64) (from % 64) (subst (λ (k : ℕ). slice_index words (u * 4 + from / 64) < 2 ^ k) (sym all) small)

  pub lowest_in_word : 0 < slice_index words (u * 4 + from / 64) / 2 ^ (from % 64)
      → (from ≤ from + trailing_zeros w64 (slice_index words (u * 4 + from / 64) / 2 ^ (from % 64)))
      × (among u (at rows (from + trailing_zeros w64 (slice_index words (u * 4 + from / 64) / 2 ^ (from % 64)))).targets ≡ true)
      × ((w : ℕ) → from ≤ w → w < from + trailing_zeros w64 (slice_index words (u * 4 + from / 64) / 2 ^ (from % 64)) → among u (at rows w).targets ≡ false)
  lowest_in_word some =
      let n : ℕ = slice_index words (u * 4 + from / 64) / 2 ^ (from % 64) in
      let wide : 2 ^ (64 - from % 64) ≤ 2 ^ 64 = pow_mono {i = 64 - from % 64} {j = 64} (omega arith) in
      let small_n : n < 2 ^ 64 = omega (arith, shifted_is_small, wide) in
      let low = bit_at-trailing_zeros w64 n some small_n in
      let inside : from % 64 + trailing_zeros w64 n < 64 =
      elim (cases_lt (trailing_zeros w64 n) (64 - from % 64)) [
        | inl l ↦ omega arith
        | inr h ↦ absurd (omega (arith, bit_at_above n (64 - from % 64) (trailing_zeros w64 n) shifted_is_small h, low.1))
      ] in (
        omega arith,
        sym (bits_tell (trailing_zeros w64 n) inside) ∙ eq-eqb _ 1 low.1,
        λ w l h. sym (tells_at w l (omega arith)) ∙ ap (λ (b : ℕ). eqb b 1) (low.2 (w - from) (omega arith)),
      )

-- The bits of a whole word show who waits, and no bit shows it of a job or word that there is not.
module _ {rows : List Waiting} {words : List ℕ} (marked : MarksWaits rows words) (u word : ℕ) where
  pub word_shows_waiters : word < 4 → ShowsWaiters rows u word (slice_index words (u * 4 + word))
  word_shows_waiters low i l =
      let part : (word * 64 + i) / 64 ≡ word = omega arith in
      let bit : (word * 64 + i) % 64 ≡ i = omega arith in
      sym (ap (λ (p : ℕ). eqb (bit_at (slice_index words (u * 4 + p)) ((word * 64 + i) % 64)) 1) part ∙ ap (λ (b : ℕ). eqb (bit_at (slice_index words (u * 4 + word)) b) 1) bit)
      ∙ marked.exact u (word * 64 + i) (omega arith)

  pub no_bit_shows_waiters : (256 ≤ u) ⊎ (4 ≤ word) → ShowsWaiters rows u word 0
  no_bit_shows_waiters past i l =
      ap (λ (b : ℕ). eqb b 1) (bit_at-zero i)
      ∙ sym (false_from_ne_true (among u (at rows (word * 64 + i)).targets) (λ a.
      elim past [
        | inl far ↦ absurd (omega (arith, target_below rows marked.table.lawful (word * 64 + i) u a, marked.table.few))
        | inr far ↦ absurd (omega (arith, who_waits_is_a_job rows (word * 64 + i) u a, marked.table.few))
      ]))

-- From word to word: no job from `from` up to `low` waits.
module _ {rows : List Waiting} {words : List ℕ} (marked : MarksWaits rows words) (u from : ℕ) where
  pub no_job_is_waited_for_past_the_last : 256 ≤ u → None ≡ first_from from (waiters rows u)
  no_job_is_waited_for_past_the_last far =
      first_who_waits_is_the_first_waiter rows u from (length rows) refl None
      (λ v l h. false_from_ne_true (among u (at rows v).targets) (λ a. absurd (omega (arith, target_below rows marked.table.lawful v u a, marked.table.few))))

  module _ (low : ℕ) (before : (v : ℕ) → from ≤ v → v < low → among u (at rows v).targets ≡ false) where
    pub none_is_first : 256 ≤ low → None ≡ first_from from (waiters rows u)
    none_is_first far =
        first_who_waits_is_the_first_waiter rows u from (length rows) refl None
        (λ v l h. before v l (omega (arith, marked.table.few)))

    pub found_is_first : (v : ℕ) → from ≤ low → (low ≤ v) × (among u (at rows v).targets ≡ true) × ((w : ℕ) → low ≤ w → w < v → among u (at rows w).targets ≡ false)
        → Some v ≡ first_from from (waiters rows u)
    found_is_first v l f =
        first_who_waits_is_the_first_waiter rows u from (length rows) refl (Some v) (
          omega (arith, f.0),
          who_waits_is_a_job rows v u f.1,
          f.1,
          λ w m h. elim (cases_lt w low) [ inl b ↦ before w m b | inr a ↦ f.2 w a h ],
        )
