-- An element that leaves its place among the first so many of a list.
use Rattle.std.proofs.Common.{◌≡◌, ℕ, suc, ◌+◌, ◌-◌, ◌<◌, ◌≤◌, List, ◌∷◌, ◌++◌, length, get_or, take, drop, sym, ap, ◌∙◌, append_assoc, add-one, arith, length-append, length-drop}
use borrow.Rule.Slice.PartMut.{put_mid, post_of}
use Rattle.std.specs.List.{insert, remove}
use Rattle.std.proofs.lemmas.List.{length-take, take_at, take-take, take-append-drop, drop_at, drop-drop, drop_more, drop-take, get_or-take}

-- A list is what is left of it without the element at a place, and that element back at its place.
pub removed_and_back : {X : Type 0} (xs : List X) (place : ℕ) (d : X)
    → place < length xs
    → xs ≡ insert (remove xs place) place (get_or xs place d)
removed_and_back xs place d less =
    let below : length (take place xs) ≡ place = simp length-take (omega arith) in
    let x = get_or xs place d in
    sym (take-append-drop place xs)
    ∙ ap (λ ys. take place xs ++ ys) (drop_more xs place d less)
    ∙ ap (λ n. take place xs ++ x ∷ drop n xs) (add-one place)
    ∙ ap (λ ys. ys ++ x ∷ drop (suc place) xs) (sym (take_at (take place xs) (drop (suc place) xs) place below))
    ∙ ap (λ ys. take place (remove xs place) ++ x ∷ ys) (sym (drop_at (take place xs) (drop (suc place) xs) place below))

-- The elements from a place to the n-th, turned round by one, and the last of the n left out: the one at the place is gone.
pub turned_by_one_removes : {X : Type 0} (xs turned : List X) (n place : ℕ)
    → place < n
    → n ≤ length xs
    → turned ≡ drop 1 (take (n - place) (drop place xs)) ++ take 1 (take (n - place) (drop place xs))
    → take (n - 1) (put_mid place (n - place) xs turned) ≡ remove (take n xs) place
turned_by_one_removes xs turned n place less le e =
    let part : List _ = take (n - place) (drop place xs) in
    let past = post_of place (n - place) xs in
    let whole : n ≡ place + (n - place) = omega arith in
    let cut : drop place (take n xs) ≡ part = ap (λ m. drop place (take m xs)) whole ∙ drop-take place (n - place) xs in
    let below : place ≤ n = omega arith in
    let l : length (take place xs ++ drop 1 part) ≡ n - 1 = simp (length-append, length-drop, length-take) (omega arith) in
    ap (λ ys. take (n - 1) (take place xs ++ (ys ++ past))) e
    ∙ ap (λ ys. take (n - 1) (take place xs ++ ys)) (append_assoc (drop 1 part) (take 1 part) past)
    ∙ ap (take (n - 1)) (sym (append_assoc (take place xs) (drop 1 part) (take 1 part ++ past)))
    ∙ take_at (take place xs ++ drop 1 part) (take 1 part ++ past) (n - 1) l
    ∙ ap (λ ys. ys ++ drop 1 part) (sym (take-take place n xs below))
    ∙ ap (λ ys. take place (take n xs) ++ drop 1 ys) (sym cut)
    ∙ ap (λ ys. take place (take n xs) ++ ys) (drop-drop 1 place (take n xs))
    ∙ ap (λ m. take place (take n xs) ++ drop m (take n xs)) (add-one place)

-- A prefix is what that leaves of it, and the element back at its place.
pub turned_by_one_and_back : {X : Type 0} (n place : ℕ) (xs turned : List X) (d : X)
    → place < n
    → n ≤ length xs
    → turned ≡ drop 1 (take (n - place) (drop place xs)) ++ take 1 (take (n - place) (drop place xs))
    → take n xs ≡ insert (take (n - 1) (put_mid place (n - place) xs turned)) place (get_or xs place d)
turned_by_one_and_back n place xs turned d less le is =
    let within : place < length (take n xs) = simp length-take (omega arith) in
    let left : List _ = take (n - 1) (put_mid place (n - place) xs turned) in
    removed_and_back (take n xs) place d within
    ∙ ap (λ ys. insert ys place (get_or (take n xs) place d)) (sym (turned_by_one_removes xs turned n place less le is))
    ∙ ap (insert left place) (get_or-take n xs place d less)
