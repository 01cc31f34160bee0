-- The cells of a ring in their order from a head, and what a put and a pop do to the first so many of them.
use Rattle.std.proofs.Common.{◌≡◌, ℕ, suc, ◌+◌, ◌-◌, ◌<◌, ◌≤◌, List, [], ◌∷◌, ◌++◌, length, get_or, take, drop, set, sym, ap, ◌∙◌, inl, inr, append_assoc, append-nil, arith, length-append, length-drop}
use lib.Seq.{take-set-lt}
use Rattle.std.proofs.lemmas.List.{drop-set-add, take-set-le, set-append_left, set-append_right, drop-set-lt, length-take, take_more, drop_more, take_more_set, take-append-le, take_all, drop_all}
use Rattle.containers.specs.Rings.{turned, IsCellAfter}

-- Turning loses no cell.
pub length-turned : {X : Type 0} (h : ℕ) (cells : List X) → length (turned h cells) ≡ length cells
length-turned h cells = simp (length-append, length-drop, length-take) (omega arith)

-- A head past the last cell is the first cell.
pub turned_past_the_last : {X : Type 0} (h : ℕ) (cells : List X)
    → length cells ≤ h
    → turned h cells ≡ turned 0 cells
turned_past_the_last h cells le =
    ap (λ ys. ys ++ take h cells) (drop_all h cells le)
    ∙ take_all h cells le
    ∙ sym (append-nil cells)

-- A write n cells after the head, with no way round the end.
pub turned_set_ahead : {X : Type 0} (h n : ℕ) (cells : List X) (x : X)
    → n < length cells - h
    → turned h (set cells (h + n) x) ≡ set (turned h cells) n x
turned_set_ahead h n cells x lt =
    let l : n < length (drop h cells) = simp length-drop lt in
    let m : h ≤ h + n = omega arith in
    ap (λ ys. ys ++ take h (set cells (h + n) x)) (drop-set-add h cells n x)
    ∙ ap (λ ys. set (drop h cells) n x ++ ys) (take-set-le h cells (h + n) x m)
    ∙ sym (set-append_left (drop h cells) (take h cells) n x l)

-- A write n cells after the head, gone round the end.
pub turned_set_round : {X : Type 0} (h n : ℕ) (cells : List X) (x : X)
    → h ≤ length cells
    → length cells - h ≤ n
    → n < length cells
    → turned h (set cells (n - (length cells - h)) x) ≡ set (turned h cells) n x
turned_set_round h n cells x le ge lt =
    let p = n - (length cells - h) in
    let t : p < h = omega arith in
    ap (λ ys. ys ++ take h (set cells p x)) (drop-set-lt h cells p x t)
    ∙ ap (λ ys. drop h cells ++ ys) (take-set-lt h cells p x t)
    ∙ sym (set-append_right (drop h cells) (take h cells) (length cells - h) n x (length-drop h cells) ge)

-- The ring begins with the cell at the head.
pub turned_begins_at_head : {X : Type 0} (h : ℕ) (cells : List X) (d : X)
    → h < length cells
    → turned h cells ≡ get_or cells h d ∷ (drop (h + 1) cells ++ take h cells)
turned_begins_at_head h cells d lt = ap (λ ys. ys ++ take h cells) (drop_more cells h d lt)

-- A head one further on sends that cell to the end.
pub turned_one_further : {X : Type 0} (h : ℕ) (cells : List X) (d : X)
    → h < length cells
    → turned (h + 1) cells ≡ (drop (h + 1) cells ++ take h cells) ++ get_or cells h d ∷ []
turned_one_further h cells d lt =
    ap (λ ys. drop (h + 1) cells ++ ys) (take_more cells h d lt)
    ∙ sym (append_assoc (drop (h + 1) cells) (take h cells) (get_or cells h d ∷ []))

-- A write at the cell n after the head is a write at the place n of the ring.
pub turned_set : {X : Type 0} (h n p : ℕ) (cells : List X) (x : X)
    → h < length cells
    → n < length cells
    → p < length cells
    → IsCellAfter (length cells) h n p
    → turned h (set cells p x) ≡ set (turned h cells) n x
turned_set h n p cells x lh ln lp (inl e) =
    let lt : n < length cells - h = omega arith in
    ap (λ k. turned h (set cells k x)) e
    ∙ turned_set_ahead h n cells x lt
turned_set h n p cells x lh ln lp (inr e) =
    let le : h ≤ length cells = omega arith in
    let ge : length cells - h ≤ n = omega arith in
    let same : p ≡ n - (length cells - h) = omega arith in
    ap (λ k. turned h (set cells k x)) same
    ∙ turned_set_round h n cells x le ge ln

-- A write at the cell n after the head adds its record to the first n of the ring.
pub put_joins_ring : {X : Type 0} (h n p : ℕ) (cells : List X) (x : X)
    → h < length cells
    → n < length cells
    → p < length cells
    → IsCellAfter (length cells) h n p
    → take (n + 1) (turned h (set cells p x)) ≡ take n (turned h cells) ++ x ∷ []
put_joins_ring h n p cells x lh ln lp cases =
    let l = length-turned h cells in
    let less : n < length (turned h cells) = omega arith in
    ap (take (n + 1)) (turned_set h n p cells x lh ln lp cases)
    ∙ take_more_set (turned h cells) n x less

-- A head one further on, and one record fewer, drops the first of the first n.
pub head_further_drops_first : {X : Type 0} (h n : ℕ) (cells : List X) (d : X)
    → h < length cells
    → 0 < n
    → n ≤ length cells
    → take n (turned h cells) ≡ get_or cells h d ∷ take (n - 1) (turned (h + 1) cells)
head_further_drops_first h n cells d lt pos ln =
    let e : n ≡ suc (n - 1) = omega arith in
    let first = get_or cells h d in
    let rest : List _ = drop (h + 1) cells ++ take h cells in
    let l : n - 1 ≤ length rest = simp (length-append, length-drop, length-take) (omega arith) in
    ap (λ m. take m (turned h cells)) e
    ∙ ap (take (suc (n - 1))) (turned_begins_at_head h cells d lt)
    ∙ ap (λ ys. first ∷ ys) (sym (take-append-le (n - 1) rest (first ∷ []) l))
    ∙ ap (λ ys. first ∷ take (n - 1) ys) (sym (turned_one_further h cells d lt))

-- The head goes to the next cell, round the end of the cells too: the record that it leaves was the first.
pub take_leaves_ring : {X : Type 0} (h n p : ℕ) (cells : List X) (d : X)
    → h < length cells
    → 0 < n
    → n ≤ length cells
    → p < length cells
    → IsCellAfter (length cells) h 1 p
    → take n (turned h cells) ≡ get_or cells h d ∷ take (n - 1) (turned p cells)
take_leaves_ring h n p cells d lt pos ln lp (inl e) =
    rw e (head_further_drops_first h n cells d lt pos ln)
take_leaves_ring h n p cells d lt pos ln lp (inr e) =
    let first : p ≡ 0 = omega arith in
    let past : length cells ≤ h + 1 = omega arith in
    head_further_drops_first h n cells d lt pos ln
    ∙ ap (λ ys. get_or cells h d ∷ take (n - 1) ys) (turned_past_the_last (h + 1) cells past)
    ∙ ap (λ k. get_or cells h d ∷ take (n - 1) (turned k cells)) (sym first)
