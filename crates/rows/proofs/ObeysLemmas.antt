-- Rows that obey a law: what it tells of each, and what still obeys it.
use Rattle.std.proofs.Common.{◌≡◌, ℕ, zero, suc, ◌+◌, ◌<◌, Bool, true, List, [], ◌∷◌, map, length, get_or, take, set, replicate, refl, subst, arith}
use Rattle.std.proofs.lemmas.Bool.{and_from, and_parts}
use Rattle.rows.specs.Obeys.{rows_obey}

module _ {P : Type 0} (law : ℕ → P → Bool) where
  -- the law of the row at a place
  pub obeyed_from : (job : ℕ) (rows : List P) (k : ℕ) (d : P) → k < length rows → rows_obey law job rows ≡ true → law (k + job) (get_or rows k d) ≡ true
  obeyed_from job [] k d l o = absurd (omega arith)
  obeyed_from job (r ∷ rs) zero d l o = let e : job ≡ 0 + job = omega arith in subst (λ n. law n r ≡ true) e (and_parts (law job r) _ o).0
  obeyed_from job (r ∷ rs) (suc k) d l o =
      let e : k + (job + 1) ≡ suc k + job = omega arith in
      subst (λ n. law n (get_or rs k d) ≡ true) e (obeyed_from (job + 1) rs k d (omega arith) (and_parts (law job r) _ o).1)

  -- the law of a job's row
  pub obeyed_at : (rows : List P) (job : ℕ) (d : P) → job < length rows → rows_obey law 0 rows ≡ true → law job (get_or rows job d) ≡ true
  obeyed_at rows job d l o = let e : job + 0 ≡ job = omega arith in subst (λ n. law n (get_or rows job d) ≡ true) e (obeyed_from 0 rows job d l o)

  set_obeys_from : (job : ℕ) (rows : List P) (k : ℕ) (row : P) → law (k + job) row ≡ true → rows_obey law job rows ≡ true → rows_obey law job (set rows k row) ≡ true
  set_obeys_from job [] k row l o = refl
  set_obeys_from job (r ∷ rs) zero row l o =
      let e : 0 + job ≡ job = omega arith in
      and_from _ _ (subst (λ n. law n row ≡ true) e l) (and_parts (law job r) _ o).1
  set_obeys_from job (r ∷ rs) (suc k) row l o =
      let e : suc k + job ≡ k + (job + 1) = omega arith in
      and_from _ _ (and_parts (law job r) _ o).0 (set_obeys_from (job + 1) rs k row (subst (λ n. law n row ≡ true) e l) (and_parts (law job r) _ o).1)

  -- a job's row is replaced by another that obeys
  pub set_obeys : (rows : List P) (job : ℕ) (row : P) → law job row ≡ true → rows_obey law 0 rows ≡ true → rows_obey law 0 (set rows job row) ≡ true
  set_obeys rows job row l o = let e : job ≡ job + 0 = omega arith in set_obeys_from 0 rows job row (subst (λ n. law n row ≡ true) e l) o

  -- all rows are one that obeys
  pub replicate_obeys : (n job : ℕ) (row : P) → ((k : ℕ) → law k row ≡ true) → rows_obey law job (replicate n row) ≡ true
  replicate_obeys zero job row l = refl
  replicate_obeys (suc n) job row l = and_from _ _ (l job) (replicate_obeys n (job + 1) row l)

  -- the first rows do
  pub take_obeys : (m job : ℕ) (rows : List P) → rows_obey law job rows ≡ true → rows_obey law job (take m rows) ≡ true
  take_obeys zero job rows o = refl
  take_obeys (suc m) job [] o = refl
  take_obeys (suc m) job (r ∷ rs) o = let p = and_parts (law job r) _ o in and_from _ _ p.0 (take_obeys m (job + 1) rs p.1)

-- What rows mean obeys a law that follows from theirs.
pub map_obeys : {P Q : Type 0} (law : ℕ → P → Bool) (law' : ℕ → Q → Bool) (f : P → Q) → ((k : ℕ) (p : P) → law k p ≡ true → law' k (f p) ≡ true)
    → (job : ℕ) (rows : List P) → rows_obey law job rows ≡ true → rows_obey law' job (map f rows) ≡ true
map_obeys law law' f h job [] o = refl
map_obeys law law' f h job (r ∷ rs) o = let p = and_parts (law job r) _ o in and_from _ _ (h job r p.0) (map_obeys law law' f h (job + 1) rs p.1)
