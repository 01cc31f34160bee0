-- The trail cut at the groups' starts, before and after each call.
use Rattle.std.proofs.Common.{◌≡◌, ℕ, suc, ◌<◌, ◌≤◌, true, Option, Some, None, IsSome, List, [], ◌∷◌, ◌++◌, length, reverse, take, drop, sym, refl, ap, ◌∙◌, arith, sum_by}
use Rattle.std.proofs.lemmas.List.Sums.{sum_by-cons}
use Rattle.std.proofs.lemmas.List.{drop-append-le, take-append-le, take-append-drop, take-take, length-take-le, length-drop, length_push, length-append, length-reverse, reverse-append}
use Rattle.std.specs.Option.{option_to_list}
use Rattle.std.proofs.lemmas.Bool.Decides.{nat_tests}
use Rattle.groups.specs.State.{with_undo_record, merged}
use Rattle.groups.specs.Memory.{parts, tidy}

tidy_within : (n s : ℕ) (ss : List ℕ) → tidy n (s ∷ ss) ≡ true → s ≤ n
tidy_within n s ss t = grind (arith, nat_tests)

tidy_outside : (n s : ℕ) (ss : List ℕ) → tidy n (s ∷ ss) ≡ true → tidy s ss ≡ true
tidy_outside n s ss t = grind (arith, nat_tests)

tidy_longer : (n m : ℕ) (ss : List ℕ) → 0 < length ss → n ≤ m → tidy n ss ≡ true → tidy m ss ≡ true
tidy_longer n m [] p l t = absurd (omega arith)
tidy_longer n m (s ∷ ss) p l t = grind (arith, nat_tests)

module _ {X : Type 0} where
  pub length_parts : (xs : List X) (ss : List ℕ) → length (parts xs ss) ≡ length ss
  length_parts xs [] = refl
  length_parts xs (s ∷ ss) = ap suc (length_parts (take s xs) ss)

  -- what is left of a tidy trail without its innermost part
  tidy_front : (xs : List X) (s : ℕ) (ss : List ℕ) → tidy (length xs) (s ∷ ss) ≡ true → tidy (length (take s xs)) ss ≡ true
  tidy_front xs s ss t =
      let l = length-take-le s xs (tidy_within (length xs) s ss t) in
      rw l (tidy_outside (length xs) s ss t)

  -- every record of a tidy trail belongs to a group
  total_parts : (xs : List X) (ss : List ℕ) → tidy (length xs) ss ≡ true → sum_by length (parts xs ss) ≡ length xs
  total_parts xs [] t = grind (arith, nat_tests)
  total_parts xs (s ∷ ss) t =
      let w = tidy_within (length xs) s ss t in
      let inner = total_parts (take s xs) ss (tidy_front xs s ss t) in
      omega (arith, sum_by-cons length (drop s xs) (parts (take s xs) ss), inner, length-take-le s xs w, length-drop s xs)

  -- a record more goes to the innermost group
  pub parts_recorded : (xs : List X) (ss : List ℕ) (x : X) → 0 < length ss → tidy (length xs) ss ≡ true → (tidy (length (xs ++ x ∷ [])) ss ≡ true) × (parts (xs ++ x ∷ []) ss ≡ with_undo_record (parts xs ss) x)
  parts_recorded xs [] x p t = absurd (omega arith)
  parts_recorded xs (s ∷ ss) x p t =
      let l = tidy_within (length xs) s ss t in
      let m : length xs ≤ length (xs ++ x ∷ []) = omega (arith, length_push xs x) in
      (tidy_longer (length xs) _ (s ∷ ss) p m t, ap (λ ys. ys ∷ parts (take s (xs ++ x ∷ [])) ss) (drop-append-le s xs (x ∷ []) l) ∙ ap (λ ys. (drop s xs ++ x ∷ []) ∷ parts ys ss) (take-append-le s xs (x ∷ []) l))

  drop_split : (xs : List X) (t s : ℕ) → t ≤ s → s ≤ length xs → drop t xs ≡ drop t (take s xs) ++ drop s xs
  drop_split xs t s l m =
      let n : t ≤ length (take s xs) = omega (arith, length-take-le s xs m) in
      ap (drop t) (sym (take-append-drop s xs)) ∙ drop-append-le t (take s xs) (drop s xs) n

  -- with the innermost start gone, its records are the next group's
  merged_parts : (xs : List X) (ss : List ℕ) (s : ℕ) → 0 < length ss → tidy (length xs) (s ∷ ss) ≡ true → (tidy (length xs) ss ≡ true) × (parts xs ss ≡ merged (parts xs (s ∷ ss)))
  merged_parts xs [] s l t = absurd (omega arith)
  merged_parts xs (q ∷ ss) s l t =
      let m = tidy_within (length xs) s (q ∷ ss) t in
      let k = tidy_within s q ss (tidy_outside (length xs) s (q ∷ ss) t) in
      (tidy_longer s (length xs) (q ∷ ss) (omega arith) m (tidy_outside (length xs) s (q ∷ ss) t), ap (λ ys. ys ∷ parts (take q xs) ss) (drop_split xs q s k m) ∙ ap (λ ys. (drop q (take s xs) ++ drop s xs) ∷ parts ys ss) (sym (take-take q s xs k)))

  -- the same of starts that stand with the innermost last
  pub depth_of : (xs : List X) (starts : List ℕ) → length (parts xs (reverse starts)) ≡ length starts
  depth_of xs starts = length_parts xs (reverse starts) ∙ length-reverse starts

  pub used_of : (xs : List X) (starts : List ℕ) → tidy (length xs) (reverse starts) ≡ true → sum_by length (parts xs (reverse starts)) ≡ length xs
  used_of xs starts t = total_parts xs (reverse starts) t

  pub recorded_parts : (xs : List X) (starts : List ℕ) (x : X) → 0 < length starts → tidy (length xs) (reverse starts) ≡ true → (tidy (length (xs ++ x ∷ [])) (reverse starts) ≡ true) × (parts (xs ++ x ∷ []) (reverse starts) ≡ with_undo_record (parts xs (reverse starts)) x)
  recorded_parts xs starts x l t =
      let n : 0 < length (reverse starts) = omega (arith, length-reverse starts) in
      parts_recorded xs (reverse starts) x n t

  pub kept_parts : (xs : List X) (before after : List ℕ) (x : Option ℕ) → before ≡ after ++ option_to_list x → (0 < length before → IsSome x) → 0 < length after → tidy (length xs) (reverse before) ≡ true → (tidy (length xs) (reverse after) ≡ true) × (parts xs (reverse after) ≡ merged (parts xs (reverse before)))
  kept_parts xs before after None e v l t =
      let n : 0 < length before = omega (arith, ap length e, length-append after []) in
      absurd (cc (v n))
  kept_parts xs before after (Some s) e v l t =
      let r : reverse before ≡ s ∷ reverse after = ap reverse e ∙ reverse-append after (s ∷ []) in
      let n : 0 < length (reverse after) = omega (arith, length-reverse after) in
      rw r (merged_parts xs (reverse after) s n (rw r at t))
