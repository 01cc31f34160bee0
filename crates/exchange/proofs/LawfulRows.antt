-- What the exchange uses of the row law, and of who waits for whom.
use Rattle.std.proofs.Common.{◌≡◌, ℕ, ◌+◌, ◌<◌, ◌≤◌, Bool, true, cond, List, [], ◌∷◌, length, sym, refl, ◌∙◌, subst, inl, inr, arith}
use Rattle.std.proofs.ByRecursion.{All-weaker}
use Rattle.std.proofs.lemmas.List.{get_or_past}
use Rattle.std.proofs.lemmas.Bool.{true≢false, cases_lt, cases_Bool, and_parts}
use Rattle.std.proofs.lemmas.Bool.Decides.{nat_tests}
use Rattle.std.specs.List.{AllByRecursion}
use Rattle.rows.specs.Waiting.{Waiting, idle, at, among}
use Rattle.rows.specs.Law.{counts_fit, rising, targets_fit, row_fits}
use Rattle.rows.proofs.Counts.{Counts, fit_tells}
use Rattle.rows.proofs.Laws.{idle_fits, fits_shaped}
use Rattle.tables.specs.ClosedSets.{count}
use Rattle.tables.specs.Tables.{lawful}
use Rattle.tables.specs.Waits.{waits, waiters, waiters_from}
use Rattle.tables.proofs.Laws.{lawful_at, target_below}
use Rattle.tables.proofs.WaiterLemmas.{waiters_are_who_waits}
use Rattle.exchange.proofs.Sums.{total, total_same, total_first, total_swap, total_of_list, count_is_total}

abbrev pub need : List Waiting → ℕ → ℕ
need rows v = (at rows v).need

abbrev pub targets : List Waiting → ℕ → List ℕ
targets rows v = (at rows v).targets

pub record Sound (rows : List Waiting) : Type 0 where
  pub below : (v u : ℕ) → among u (targets rows v) ≡ true → u < length rows
  pub rises : (v : ℕ) → rising 0 (targets rows v) ≡ true
  pub counts : (v : ℕ) → Counts (need rows v) (length (targets rows v))

-- Beyond the last job every row fits too.
fits_anywhere : (rows : List Waiting) → lawful rows ≡ true → (v : ℕ) → row_fits (length rows) v (at rows v) ≡ true
fits_anywhere rows h v = elim (cases_lt v (length rows)) [
  | inl l ↦ lawful_at rows h v l
  | inr l ↦ subst (λ (w : Waiting). row_fits (length rows) v w ≡ true) (sym (get_or_past rows v idle l)) (idle_fits (length rows) v)
]

pub lawful_is_sound : (rows : List Waiting) → lawful rows ≡ true → Sound rows
lawful_is_sound rows h = record {
  below = target_below rows h;
  rises = λ v. (and_parts (counts_fit (need rows v) (length (targets rows v))) (rising 0 (targets rows v)) (fits_shaped (length rows) v (at rows v) (fits_anywhere rows h v))).1;
  counts = λ v. fit_tells (need rows v) (length (targets rows v))
      (and_parts (counts_fit (need rows v) (length (targets rows v))) (targets_fit (length rows) v 0 (targets rows v)) (fits_anywhere rows h v)).0;
}

-- Every element is among the elements; and where one is, there are some.
pub each_is_among : (ts : List ℕ) → AllByRecursion (λ u. among u ts ≡ true) ts
each_is_among ts = part ts (λ u a. a)
  where
    part : (us : List ℕ) → ((u : ℕ) → among u us ≡ true → among u ts ≡ true) → AllByRecursion (λ u. among u ts ≡ true) us
    part [] h = tt
    part (x ∷ xs) h = (h x (grind (arith, nat_tests)), part xs (λ u a. h u (grind (arith, nat_tests))))

among_some : (u : ℕ) (ts : List ℕ) → among u ts ≡ true → 0 < length ts
among_some u [] a = absurd (true≢false (sym a))
among_some u (x ∷ xs) a = omega arith

count_all : (ts : List ℕ) → count (λ u. true) ts ≡ length ts
count_all [] = refl
count_all (x ∷ xs) = omega (arith, count_all xs)

pub count_le_length : (S : ℕ → Bool) (ts : List ℕ) → count S ts ≤ length ts
count_le_length S [] = omega arith
count_le_length S (x ∷ xs) = let ih = count_le_length S xs in grind arith

pub count_grows : (P Q : ℕ → Bool) (ts : List ℕ) → ((u : ℕ) → among u ts ≡ true → P u ≡ true → Q u ≡ true) → count P ts ≤ count Q ts
count_grows P Q [] h = omega arith
count_grows P Q (x ∷ xs) h = go (count_grows P Q xs (λ u a p. h u (grind (arith, nat_tests)) p)) (h x (grind (arith, nat_tests)))
  where
    go : count P xs ≤ count Q xs → (P x ≡ true → Q x ≡ true) → count P (x ∷ xs) ≤ count Q (x ∷ xs)
    go ih f = elim (cases_Bool (P x)) [ inl e ↦ (let q = f e in grind arith) | inr e ↦ grind arith ]

-- As many waiters as rows that wait.
waiters_counted : (job u : ℕ) (rows : List Waiting) → length (waiters_from job u rows) ≡ total (length rows) (λ v. cond (among u (targets rows v)) 1 0)
waiters_counted job u [] = refl
waiters_counted job u (w ∷ ws) =
    let ih = waiters_counted (job + 1) u ws in
    let first = total_first (length ws) (λ v. cond (among u (targets (w ∷ ws) v)) 1 0) in
    grind arith

module _ (rows : List Waiting) (ok : Sound rows) where
  -- Who waits is blocked, and who is waited for has a waiter.
  pub waiter_is_blocked : (v u : ℕ) → among u (targets rows v) ≡ true → 0 < need rows v
  waiter_is_blocked v u a = elim (cases_lt 0 (need rows v)) [
    | inl l ↦ l
    | inr z ↦ absurd (omega (arith, among_some u (targets rows v) a, (ok.counts v).none (omega arith)))
  ]

  pub some_waiter : (v u : ℕ) → among u (targets rows v) ≡ true → 0 < length (waiters rows u)
  some_waiter v u a = among_some v (waiters rows u) (waiters_are_who_waits rows u v ∙ a)

  pub each_waiter_waits : (u : ℕ) → AllByRecursion (λ v. among u (targets rows v) ≡ true) (waiters rows u)
  each_waiter_waits u = All-weaker (λ v. among v (waiters rows u) ≡ true) (λ v. among u (targets rows v) ≡ true) (λ v a. sym (waiters_are_who_waits rows u v) ∙ a) (waiters rows u) (each_is_among (waiters rows u))

  -- Each wait is counted once by who waits, and once by whom it is for.
  pub waits_by_waiter : total (length rows) (λ v. length (targets rows v)) ≡ waits rows
  waits_by_waiter = total_of_list (λ (w : Waiting). length w.targets) idle rows

  pub waits_by_target : total (length rows) (λ u. length (waiters rows u)) ≡ waits rows
  waits_by_target =
      total_same (length rows) (λ u. length (waiters rows u)) (λ u. total (length rows) (λ v. cond (among u (targets rows v)) 1 0)) (λ u l. waiters_counted 0 u rows)
      ∙ total_swap (length rows) (length rows) (λ u v. cond (among u (targets rows v)) 1 0)
      ∙ total_same (length rows) (λ v. total (length rows) (λ u. cond (among u (targets rows v)) 1 0)) (λ v. length (targets rows v))
      (λ v l. sym (count_is_total (length rows) 0 (λ u. true) (targets rows v) (ok.rises v) (ok.below v)) ∙ count_all (targets rows v))
      ∙ waits_by_waiter
