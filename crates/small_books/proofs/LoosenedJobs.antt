-- What a reduction leaves, by one computed test.
use Rattle.std.proofs.Common.{◌≡◌, ℕ, zero, suc, ◌+◌, ◌<◌, ◌≤◌, Bool, true, false, cond, ◌&&◌, ◌||◌, ◌⊎◌, inl, inr, eqb, ltb, leb, List, [], ◌∷◌, length, take, drop, get_or, sym, refl, ap, ◌∙◌, subst, arith}
use Rattle.std.proofs.lemmas.Bool.{true≢false, and_parts, cases_eq, eqb-true, ltb-true, leb-true}
use Rattle.std.proofs.lemmas.Bool.Decides.{nat_tests}
use Rattle.rows.specs.Waiting.{Waiting, at}
use Rattle.tables.specs.ClosedSets.{count, IsClosed, IsLoosened}
use Rattle.tables.proofs.Grants.{closed_at, closed_from, loosened_can_be_freed}
use Rattle.reduction.specs.Reduced.{Reduced}
use Rattle.reduction.specs.Work.{IsDecided}
use Rattle.reduction.proofs.Outcome.{reduced}
use Rattle.tables.specs.Tables.{lawful}
use Rattle.reduction.proofs.Steps.{count_less}
use Rattle.exchange.proofs.Rounds.{each_below}
use Rattle.small_books.specs.Facts.{Marks}
use Rattle.small_books.specs.Lines.{ReductionLine}

-- Jobs loosened in k rounds: those that have as many loosened targets as they need.
abbrev loosened : List Waiting → (k : ℕ) → ℕ → Bool
loosened rows zero v = false
loosened rows (suc k) v = ltb v (length rows) && leb (at rows v).need (count (loosened rows k) (at rows v).targets)

-- One more round does not loosen a job that is not in the set.
abbrev stays_out : List Waiting → (S : ℕ → Bool) → ℕ → Bool
stays_out rows S v = S v || ltb (count S (at rows v).targets) (at rows v).need

-- The bytes from a job on are 0 for the jobs of the set, and 1 for the others.
abbrev marked_from : (S : ℕ → Bool) → (v : ℕ) → List ℕ → Bool
marked_from S v [] = true
marked_from S v (b ∷ bs) = eqb b (cond (S v) 0 1) && marked_from S (suc v) bs

each_below_tells : (n : ℕ) (p : ℕ → Bool) → each_below n p ≡ true → (v : ℕ) → v < n → p v ≡ true
each_below_tells zero p h v l = absurd (omega (arith, l))
each_below_tells (suc n) p h v l =
    let b = and_parts (p n) (each_below n p) h in
    elim (cases_eq v n) [ inl e ↦ subst (λ (x : ℕ). p x ≡ true) (sym e) b.0 | inr e ↦ each_below_tells n p b.1 v (omega (arith, l, e)) ]

-- A byte that differs from what is told beyond the bytes stands there.
heads : (bytes : List ℕ) (v b d : ℕ) → get_or bytes v d ≡ b → (b ≡ d → ⊥) → drop v bytes ≡ b ∷ drop (suc v) bytes
heads [] v b d e other = absurd (other (sym e))
heads (x ∷ xs) zero b d e other = ap (λ (y : ℕ). y ∷ xs) e
heads (x ∷ xs) (suc v) b d e other = heads xs v b d e other

module _ (rows : List Waiting) where
  is_loosened : (k v : ℕ) → loosened rows k v ≡ true → IsLoosened rows v
  is_loosened zero v h = absurd (true≢false (sym h))
  is_loosened (suc k) v h =
      let b = and_parts (ltb v (length rows)) (leb (at rows v).need (count (loosened rows k) (at rows v).targets)) h in
      λ S c. closed_at rows S c v (ltb-true v (length rows) b.0)
      (omega (arith, leb-true (at rows v).need (count (loosened rows k) (at rows v).targets) b.1, count_less (loosened rows k) S (at rows v).targets (λ u a s. is_loosened k u s S c)))

  module _ (rounds : ℕ) (out : each_below (length rows) (stays_out rows (loosened rows rounds)) ≡ true) where
    abbrev S : ℕ → Bool
    S = loosened rows rounds

    closed : IsClosed rows S
    closed = closed_from rows S (λ v l enough. go (S v) (count S (at rows v).targets) (at rows v).need enough (each_below_tells (length rows) (stays_out rows S) out v l))
      where
        go : (s : Bool) (c n : ℕ) → n ≤ c → s || ltb c n ≡ true → s ≡ true
        go s c n l h = grind (arith, nat_tests)

    -- what the set decides of a job is what the reduction has to write
    module _ (before after : List ℕ) (r : Reduced rows before after) where
      byte_heads : (v b : ℕ) → v < length rows → eqb b (cond (S v) 0 1) ≡ true → drop v after ≡ b ∷ drop (suc v) after
      byte_heads v b l h = go (S v) refl (eqb-true b (cond (S v) 0 1) h)
        where
          go : (s : Bool) → S v ≡ s → b ≡ cond s 0 1 → drop v after ≡ b ∷ drop (suc v) after
          go true e f = heads after v b 1 ((r.loosened v l).1 (is_loosened rounds v e) ∙ sym f) (λ (g : b ≡ 1). omega (arith, f, g))
          go false e f =
              heads after v b 0 ((r.stuck v l).1 (λ can. true≢false (sym ((loosened_can_be_freed rows v l).1 can S closed) ∙ e)) ∙ sym f) (λ (g : b ≡ 0). omega (arith, f, g))

      bytes_stand : (v : ℕ) (bytes : List ℕ) → v + length bytes ≡ length rows → marked_from S v bytes ≡ true → take (length bytes) (drop v after) ≡ bytes
      bytes_stand v [] e h = refl
      bytes_stand v (b ∷ bs) e h =
          let m = and_parts (eqb b (cond (S v) 0 1)) (marked_from S (suc v) bs) h in
          ap (take (suc (length bs))) (byte_heads v b (omega (arith, e)) m.0) ∙ ap (λ (xs : List ℕ). b ∷ xs) (bytes_stand (suc v) bs (omega (arith, e)) m.1)

    -- and such bytes can be left
    byte_at : (i v : ℕ) (bytes : List ℕ) → marked_from S i bytes ≡ true → v < length bytes → get_or bytes v 1 ≡ cond (S (i + v)) 0 1
    byte_at i v [] h l = absurd (omega (arith, l))
    byte_at i zero (b ∷ bs) h l =
        let m = and_parts (eqb b (cond (S i) 0 1)) (marked_from S (suc i) bs) h in
        let here : i + 0 ≡ i = omega arith in
        subst (λ (k : ℕ). b ≡ cond (S k) 0 1) (sym here) (eqb-true b (cond (S i) 0 1) m.0)
    byte_at i (suc v) (b ∷ bs) h l =
        let m = and_parts (eqb b (cond (S i) 0 1)) (marked_from S (suc i) bs) h in
        let next : suc i + v ≡ i + suc v = omega arith in
        subst (λ (k : ℕ). get_or bs v 1 ≡ cond (S k) 0 1) next (byte_at (suc i) v bs m.1 (omega (arith, l)))

    decided : (bytes : List ℕ) → length bytes ≡ length rows → marked_from S 0 bytes ≡ true → IsDecided rows bytes
    decided bytes all h = record {
      len = omega (arith, all);
      bits = λ v l. bit (S v) (get_or bytes v 1) (told v l);
      loosened = λ v l. (
        λ e. is_loosened rounds v (loose_byte (S v) (get_or bytes v 1) (told v l) e),
        λ f. ap (λ (n : ℕ). eqb n 0) (told v l ∙ ap (λ (s : Bool). cond s 0 1) (f S closed)),
      );
    }
      where
        told : (v : ℕ) → v < length rows → get_or bytes v 1 ≡ cond (S v) 0 1
        told v l = let here : 0 + v ≡ v = omega arith in subst (λ (k : ℕ). get_or bytes v 1 ≡ cond (S k) 0 1) here (byte_at 0 v bytes h (omega (arith, l, all)))

        bit : (s : Bool) (b : ℕ) → b ≡ cond s 0 1 → (b ≡ 0) ⊎ (b ≡ 1)
        bit true b e = inl e
        bit false b e = inr e

        loose_byte : (s : Bool) (b : ℕ) → b ≡ cond s 0 1 → eqb b 0 ≡ true → s ≡ true
        loose_byte true b e h = refl
        loose_byte false b e h = absurd (omega (arith, e, eqb-true b 0 h))

-- The table is lawful, the rounds have found the loosened jobs, and there is the right byte for each job.
abbrev pub loosens : (rounds : ℕ) → ReductionLine → Bool
loosens rounds r =
    let S = loosened r.rows rounds in
    lawful r.rows && (each_below (length r.rows) (stays_out r.rows S) && (marked_from S 0 r.bytes && eqb (length r.bytes) (length r.rows)))

pub computed_is_marked : (rounds : ℕ) (r : ReductionLine) → loosens rounds r ≡ true → Marks r
computed_is_marked rounds r h =
    let S = loosened r.rows rounds in
    let a = and_parts (lawful r.rows) (each_below (length r.rows) (stays_out r.rows S) && (marked_from S 0 r.bytes && eqb (length r.bytes) (length r.rows))) h in
    let b = and_parts (each_below (length r.rows) (stays_out r.rows S)) (marked_from S 0 r.bytes && eqb (length r.bytes) (length r.rows)) a.1 in
    let c = and_parts (marked_from S 0 r.bytes) (eqb (length r.bytes) (length r.rows)) b.1 in
    let all = eqb-true (length r.bytes) (length r.rows) c.1 in
    record {
      every = λ before after x. ap (λ (n : ℕ). take n after) (sym all) ∙ bytes_stand r.rows rounds b.0 before after x 0 r.bytes (omega (arith, all)) c.0;
      some = λ before. (_, reduced r.rows r.bytes before a.0 (decided r.rows rounds b.0 r.bytes all c.0) loosened_can_be_freed);
    }
