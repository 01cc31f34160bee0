-- Sums over the jobs below a number.
use Rattle.std.proofs.Common.{◌≡◌, ℕ, zero, suc, ◌+◌, ◌<◌, ◌≤◌, Bool, true, false, cond, ◌||◌, eqb, ◌⊎◌, List, [], ◌∷◌, length, get_or, take, sum_by, sym, refl, ap, ◌∙◌, inl, inr, add-one, arith}
use Rattle.std.proofs.lemmas.List.{take_all}
use Rattle.std.proofs.lemmas.List.Sums.{sum_by_more}
use Rattle.std.proofs.lemmas.Bool.{cases_eq}
use Rattle.std.proofs.lemmas.Bool.Decides.{nat_tests}
use Rattle.rows.specs.Waiting.{among}
use Rattle.rows.specs.Law.{rising}
use Rattle.tables.specs.ClosedSets.{count}
use Rattle.tables.proofs.WaiterLemmas.{among_rising_is_not_below}

abbrev pub total : (n : ℕ) → (ℕ → ℕ) → ℕ
total zero f = 0
total (suc n) f = f n + total n f

pub total_same : (n : ℕ) (f g : ℕ → ℕ) → ((k : ℕ) → k < n → f k ≡ g k) → total n f ≡ total n g
total_same zero f g h = refl
total_same (suc n) f g h = omega (arith, h n (omega arith), total_same n f g (λ k l. h k (omega arith)))

-- One summand changes.
pub total_change : (n j : ℕ) (f g : ℕ → ℕ) → j < n → ((k : ℕ) → (k ≡ j → ⊥) → g k ≡ f k) → total n g + f j ≡ total n f + g j
total_change zero j f g l h = absurd (omega arith)
total_change (suc n) j f g l h = go (cases_eq j n) (total_change n j f g)
  where
    go : (j ≡ n) ⊎ (j ≡ n → ⊥) → (j < n → ((k : ℕ) → (k ≡ j → ⊥) → g k ≡ f k) → total n g + f j ≡ total n f + g j) → total (suc n) g + f j ≡ total (suc n) f + g j
    go (inl e) ih = rw e (omega (arith, total_same n g f (λ k b. h k (omega arith))))
    go (inr d) ih = omega (arith, ih (omega arith) h, h n (omega arith))

pub total_add : (n : ℕ) (f g : ℕ → ℕ) → total n (λ k. f k + g k) ≡ total n f + total n g
total_add zero f g = refl
total_add (suc n) f g = omega (arith, total_add n f g)

pub total_none : (n : ℕ) → total n (λ k. 0) ≡ 0
total_none zero = refl
total_none (suc n) = omega (arith, total_none n)

pub summand_le_total : (n j : ℕ) (f : ℕ → ℕ) → j < n → f j ≤ total n f
summand_le_total zero j f l = absurd (omega arith)
summand_le_total (suc n) j f l = elim (cases_eq j n) [ inl e ↦ rw e (omega arith) | inr d ↦ omega (arith, summand_le_total n j f (omega arith)) ]

-- A sum with one summand that counts.
pub total_at : (n x : ℕ) (f : ℕ → ℕ) → x < n → total n (λ k. cond (eqb k x) (f k) 0) ≡ f x
total_at n x f l =
    let e = total_change n x (λ k. 0) (λ k. cond (eqb k x) (f k) 0) l (λ k d. grind (arith, nat_tests)) in
    let z = total_none n in
    grind (arith, nat_tests)

pub total_swap : (n m : ℕ) (f : ℕ → ℕ → ℕ) → total n (λ a. total m (λ b. f a b)) ≡ total m (λ b. total n (λ a. f a b))
total_swap zero m f = sym (total_none m)
total_swap (suc n) m f = ap (λ (z : ℕ). total m (f n) + z) (total_swap n m f) ∙ sym (total_add m (f n) (λ b. total n (λ a. f a b)))

-- The summand at 0 taken apart from the others.
pub total_first : (n : ℕ) (f : ℕ → ℕ) → total (suc n) f ≡ f 0 + total n (λ k. f (suc k))
total_first zero f = refl
total_first (suc n) f = omega (arith, total_first n f)

-- A sum over a list, place by place.
pub total_of_list : {X : Type 0} (f : X → ℕ) (d : X) (xs : List X) → total (length xs) (λ k. f (get_or xs k d)) ≡ sum_by f xs
total_of_list f d xs = part (length xs) (omega arith) ∙ ap (sum_by f) (take_all (length xs) xs (omega arith))
  where
    part : (k : ℕ) → k ≤ length xs → total k (λ i. f (get_or xs i d)) ≡ sum_by f (take k xs)
    part zero l = refl
    part (suc k) l = omega (arith, rw add-one at (sum_by_more f xs k d l), part k (omega arith))

-- How many of some jobs below n, which rise, are in the set S.
pub count_is_total : (n low : ℕ) (S : ℕ → Bool) (ts : List ℕ) → rising low ts ≡ true → ((u : ℕ) → among u ts ≡ true → u < n) → count S ts ≡ total n (λ k. cond (S k) (cond (among k ts) 1 0) 0)
count_is_total n low S [] r b = sym (total_same n (λ k. cond (S k) 0 0) (λ k. 0) (λ k l. grind arith) ∙ total_none n)
count_is_total n low S (x ∷ xs) r b =
    let rest : rising (x + 1) xs ≡ true = grind (arith, nat_tests) in
    let ih = count_is_total n (x + 1) S xs rest (λ u m. b u (grind (arith, nat_tests))) in
    let here = total_at n x (λ k. cond (S k) 1 0) (b x (grind (arith, nat_tests))) in
    let sum = total_add n (λ k. cond (eqb k x) (cond (S k) 1 0) 0) (λ k. cond (S k) (cond (among k xs) 1 0) 0) in
    let each = total_same n (λ k. cond (S k) (cond (among k (x ∷ xs)) 1 0) 0) (λ k. cond (eqb k x) (cond (S k) 1 0) 0 + cond (S k) (cond (among k xs) 1 0) 0) (λ k l. split (S k) k (later rest k)) in
    omega arith
  where
    later : rising (x + 1) xs ≡ true → (k : ℕ) → among k xs ≡ true → x < k
    later rest k a = omega (arith, among_rising_is_not_below (x + 1) xs k rest a)

    split : (b : Bool) (k : ℕ) → (among k xs ≡ true → x < k) → cond b (cond (eqb x k || among k xs) 1 0) 0 ≡ cond (eqb k x) (cond b 1 0) 0 + cond b (cond (among k xs) 1 0) 0
    split b k f = by_tests b (among k xs) f
      where
        by_tests : (b c : Bool) → (c ≡ true → x < k) → cond b (cond (eqb x k || c) 1 0) 0 ≡ cond (eqb k x) (cond b 1 0) 0 + cond b (cond c 1 0) 0
        by_tests b true f = let l = f refl in grind (arith, nat_tests)
        by_tests b false f = grind (arith, nat_tests)
