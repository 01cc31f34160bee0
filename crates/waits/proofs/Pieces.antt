-- Bytes that are read into memory piece by piece.
use Rattle.std.proofs.Common.{◌≡◌, ℕ, ◌+◌, ◌≤◌, List, ◌++◌, length, take, drop, Option, Some, None, append_assoc, sym, ap, ◌∙◌, arith}
use Rattle.std.proofs.Math.Seq.{take-append-add}
use Rattle.std.proofs.lemmas.List.{length-append, length-drop, length-take-le, take-append-le}
use Rattle.std.specs.Io.KnownBytes.{Consumes}
use borrow.Rule.Slice.PartMut.{put_mid}

-- what is read in two pieces
pub consumes_both : (a b c : Option (List ℕ)) (xs ys : List ℕ) → Consumes a b xs → Consumes b c ys → Consumes a c (xs ++ ys)
consumes_both None b c xs ys p q = _
consumes_both (Some us) None c xs ys p q = absurd p
consumes_both (Some us) (Some vs) None xs ys p q = absurd q
consumes_both (Some us) (Some vs) (Some ws) xs ys p q = p ∙ ap (λ l. xs ++ l) q ∙ sym (append_assoc xs ys ws)

module _ (count : ℕ) (memory piece : List ℕ) (inside : count ≤ length memory) where
  -- the bytes read before, and those of the piece
  pub piece_behind : (n k : ℕ) → n ≤ length piece → take (count + n) (put_mid count k memory piece) ≡ take count memory ++ take n piece
  piece_behind n k fits =
      let front = length-take-le count memory inside in
      ap (λ m. take (m + n) (put_mid count k memory piece)) (sym front) ∙ take-append-add (take count memory) _ n
      ∙ ap (λ l. take count memory ++ l) (take-append-le n piece _ fits)

  pub length-put : (k : ℕ) → length piece ≡ k → count + k ≤ length memory → length (put_mid count k memory piece) ≡ length memory
  length-put k e fits =
      let rest = drop k (drop count memory) in
      omega (arith, length-take-le count memory inside, length-append (take count memory) (piece ++ rest), length-append piece rest, length-drop k (drop count memory), length-drop count memory)
