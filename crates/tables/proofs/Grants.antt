-- A grant leaves the closed sets as they are, and grants go on until no job waits for an active one.
-- So the loosened jobs are those that lawful grants can make active.
use Rattle.std.proofs.Common.{◌≡◌, ℕ, zero, suc, ◌<◌, ◌≤◌, Bool, true, false, ◌&&◌, eqb, ltb, ◌⊎◌, ◌↔◌, List, [], ◌∷◌, length, get_or, set, sym, refl, ◌∙◌, subst, inl, inr, arith, length-set}
use mathlib.Core.Logic.Iff
use Rattle.std.proofs.lemmas.List.{get_or-set_same, get_or-set_other}
use Rattle.std.proofs.lemmas.List.Sums.{sum_by-set}
use Rattle.std.proofs.lemmas.Bool.{cases_eq, cases_Bool, true≢false}
use Rattle.std.proofs.lemmas.Bool.Decides.{nat_tests}
use Rattle.rows.specs.Waiting.{Waiting, idle, at, among}
use Rattle.rows.specs.Changes.{without, granted}
use Rattle.tables.specs.Waits.{waits}
use Rattle.tables.specs.Grants.{Grant, IsAllowed, granted_rows, rows_after, LawfulGrants, CanBeFreed}
use Rattle.tables.specs.ClosedSets.{count, IsClosed, IsLoosened, LoosenedCanBeFreed}
use Rattle.tables.proofs.Laws.{who_waits_is_a_job}

-- The two rules of a closed set as one.
pub closed_at : (rows : List Waiting) (S : ℕ → Bool) → IsClosed rows S → (v : ℕ) → v < length rows → (at rows v).need ≤ count S (at rows v).targets → S v ≡ true
closed_at rows S c v l h = elim (cases_eq (at rows v).need 0) [ inl z ↦ c.active v l z | inr z ↦ c.blocked v l (omega arith) h ]

pub closed_from : (rows : List Waiting) (S : ℕ → Bool) → ((v : ℕ) → v < length rows → (at rows v).need ≤ count S (at rows v).targets → S v ≡ true) → IsClosed rows S
closed_from rows S f = record { active = λ v l z. f v l (omega arith); blocked = λ v l p h. f v l h }

-- One target less.
pub count_without_a_held_target : (S : ℕ → Bool) (u : ℕ) (ts : List ℕ) → S u ≡ true → among u ts ≡ true → count S ts ≡ suc (count S (without u ts))
count_without_a_held_target S u [] k h = absurd (true≢false (sym h))
count_without_a_held_target S u (t ∷ ts) k h = go (count_without_a_held_target S u ts k)
  where
    go : (among u ts ≡ true → count S ts ≡ suc (count S (without u ts))) → count S (t ∷ ts) ≡ suc (count S (without u (t ∷ ts)))
    go ih = grind (arith, nat_tests, ih, h, k)

pub length-without_a_target : (u : ℕ) (ts : List ℕ) → among u ts ≡ true → length ts ≡ suc (length (without u ts))
length-without_a_target u [] h = absurd (true≢false (sym h))
length-without_a_target u (t ∷ ts) h = go (length-without_a_target u ts)
  where
    go : (among u ts ≡ true → length ts ≡ suc (length (without u ts))) → length (t ∷ ts) ≡ suc (length (without u (t ∷ ts)))
    go ih = grind (arith, nat_tests, ih, h)

-- The row of a grant: a set that holds the granter meets its need just when it did before, and it has fewer targets.
granted_row_asks_the_same : (S : ℕ → Bool) (u : ℕ) (w : Waiting) → S u ≡ true → among u w.targets ≡ true → (w.need ≤ count S w.targets) ↔ ((granted u w).need ≤ count S (granted u w).targets)
granted_row_asks_the_same S u w s a = let e = count_without_a_held_target S u w.targets s a in (λ h. grind (arith, nat_tests), λ h. grind (arith, nat_tests))

granted_row_is_shorter : (u : ℕ) (w : Waiting) → among u w.targets ≡ true → length (granted u w).targets < length w.targets
granted_row_is_shorter u w a = let e = length-without_a_target u w.targets a in grind (arith, nat_tests)

-- What holds of each row after a write.
pub row_after_a_write : {X : Type 0} (P : ℕ → X → Type 0) (d : X) (xs : List X) (i : ℕ) (x : X) (k : ℕ) → i < length xs → P i x → ((k ≡ i → ⊥) → P k (get_or xs k d)) → P k (get_or (set xs i x) k d)
row_after_a_write P d xs i x k h here there =
    elim (cases_eq k i) [
      | inl e ↦ subst (λ (j : ℕ). P j (get_or (set xs i x) j d)) (sym e) (subst (P i) (sym (get_or-set_same xs i x d h)) here)
      | inr n ↦ subst (P k) (sym (get_or-set_other xs i k x d n)) (there n)
    ]

module _ (rows : List Waiting) (g : Grant) (law : IsAllowed rows g) where
  abbrev row : Waiting
  row = granted g.granter (at rows g.waiter)

  waiter_is_a_job : g.waiter < length rows
  waiter_is_a_job = who_waits_is_a_job rows g.waiter g.granter law.waits

  as_many_rows : length (granted_rows rows g) ≡ length rows
  as_many_rows = length-set rows g.waiter row

  asks_the_same : (S : ℕ → Bool) → S g.granter ≡ true → (v : ℕ) → ((at rows v).need ≤ count S (at rows v).targets) ↔ ((at (granted_rows rows g) v).need ≤ count S (at (granted_rows rows g) v).targets)
  asks_the_same S s v =
      row_after_a_write (λ k w. ((at rows k).need ≤ count S (at rows k).targets) ↔ (w.need ≤ count S w.targets)) idle rows g.waiter row v waiter_is_a_job
      (granted_row_asks_the_same S g.granter (at rows g.waiter) s law.waits)
      (λ n. Iff.rfl)

  closed_after_a_grant : (S : ℕ → Bool) → IsClosed rows S → IsClosed (granted_rows rows g) S
  closed_after_a_grant S c = closed_from (granted_rows rows g) S (λ v l h. closed_at rows S c v (omega (arith, as_many_rows)) ((asks_the_same S (c.active g.granter law.job law.active) v).1 h))

  granter_stays_active : (at (granted_rows rows g) g.granter).need ≡ 0
  granter_stays_active =
      row_after_a_write (λ k w. (at rows k).need ≡ 0 → w.need ≡ 0) idle rows g.waiter row g.granter waiter_is_a_job (λ z. grind (arith, nat_tests)) (λ n z. z) law.active

  closed_before_a_grant : (S : ℕ → Bool) → IsClosed (granted_rows rows g) S → IsClosed rows S
  closed_before_a_grant S c =
      closed_from rows S (λ v l h.
      closed_at (granted_rows rows g) S c v (omega (arith, as_many_rows)) ((asks_the_same S (c.active g.granter (omega (arith, as_many_rows, law.job)) granter_stays_active) v).0 h))

  fewer_waits : waits (granted_rows rows g) < waits rows
  fewer_waits =
      omega (arith, granted_row_is_shorter g.granter (at rows g.waiter) law.waits, sum_by-set (λ (w : Waiting). length w.targets) rows g.waiter row idle waiter_is_a_job)

-- After lawful grants there are as many rows, and the same sets are closed.
pub as_many_rows_after_grants : (rows : List Waiting) (gs : List Grant) → length (rows_after rows gs) ≡ length rows
as_many_rows_after_grants rows [] = refl
as_many_rows_after_grants rows (g ∷ gs) = as_many_rows_after_grants (granted_rows rows g) gs ∙ length-set rows g.waiter (granted g.granter (at rows g.waiter))

pub closed_as_before_grants : (rows : List Waiting) (gs : List Grant) → LawfulGrants rows gs → (S : ℕ → Bool) → IsClosed rows S ↔ IsClosed (rows_after rows gs) S
closed_as_before_grants rows [] l S = Iff.rfl
closed_as_before_grants rows (g ∷ gs) l S =
    let ih = closed_as_before_grants (granted_rows rows g) gs l.1 S in
    (λ c. ih.0 (closed_after_a_grant rows g l.0 S c), λ c. closed_before_a_grant rows g l.0 S (ih.1 c))

-- The active jobs.
abbrev active : List Waiting → ℕ → Bool
active rows v = ltb v (length rows) && eqb (at rows v).need 0

-- No job waits for an active one.
abbrev Settled : List Waiting → Type 0
Settled rows = (v : ℕ) → v < length rows → count (active rows) (at rows v).targets ≡ 0

settled_actives_are_closed : (rows : List Waiting) → Settled rows → IsClosed rows (active rows)
settled_actives_are_closed rows f = closed_from rows (active rows) (λ v l h. let z = f v l in grind (arith, nat_tests))

-- Some target is in the set, or none counts.
held_target_or_none : (S : ℕ → Bool) (ts : List ℕ) → ((u : ℕ) × (among u ts ≡ true) × (S u ≡ true)) ⊎ (count S ts ≡ 0)
held_target_or_none S [] = inr refl
held_target_or_none S (t ∷ ts) = go (held_target_or_none S ts) (cases_Bool (S t))
  where
    go : ((u : ℕ) × (among u ts ≡ true) × (S u ≡ true)) ⊎ (count S ts ≡ 0) → (S t ≡ true) ⊎ (S t ≡ false) → ((u : ℕ) × (among u (t ∷ ts) ≡ true) × (S u ≡ true)) ⊎ (count S (t ∷ ts) ≡ 0)
    go d (inl e) = inl (t, grind (arith, nat_tests), e)
    go (inl p) (inr e) = inl (p.0, grind (arith, nat_tests), p.2)
    go (inr z) (inr e) = inr (grind arith)

-- Some grant is allowed, or none of the first k jobs waits for an active one.
allowed_or_settled_below : (rows : List Waiting) (k : ℕ) → ((g : Grant) × IsAllowed rows g) ⊎ ((v : ℕ) → v < k → count (active rows) (at rows v).targets ≡ 0)
allowed_or_settled_below rows zero = inr (λ v l. absurd (omega arith))
allowed_or_settled_below rows (suc k) = go (allowed_or_settled_below rows k) (held_target_or_none (active rows) (at rows k).targets)
  where
    go : ((g : Grant) × IsAllowed rows g) ⊎ ((v : ℕ) → v < k → count (active rows) (at rows v).targets ≡ 0) → ((u : ℕ) × (among u (at rows k).targets ≡ true) × (active rows u ≡ true)) ⊎ (count (active rows) (at rows k).targets ≡ 0) → ((g : Grant) × IsAllowed rows g) ⊎ ((v : ℕ) → v < suc k → count (active rows) (at rows v).targets ≡ 0)
    go (inl g) d = inl g
    go (inr f) (inl p) = inl (record { granter = p.0; waiter = k }, record { job = grind (arith, nat_tests); active = grind (arith, nat_tests); waits = p.1 })
    go (inr f) (inr z) = inr (λ v l. elim (cases_eq v k) [ inl e ↦ rw e z | inr n ↦ f v (omega arith) ])

-- Grants go on until no job waits for an active one.
settled_by_grants : (k : ℕ) (rows : List Waiting) → waits rows < k → (gs : List Grant) × LawfulGrants rows gs × Settled (rows_after rows gs)
settled_by_grants zero rows h = absurd (omega arith)
settled_by_grants (suc k) rows h = go (allowed_or_settled_below rows (length rows)) (λ g law. settled_by_grants k (granted_rows rows g) (omega (arith, fewer_waits rows g law)))
  where
    go : ((g : Grant) × IsAllowed rows g) ⊎ Settled rows → ((g : Grant) → IsAllowed rows g → (gs : List Grant) × LawfulGrants (granted_rows rows g) gs × Settled (rows_after (granted_rows rows g) gs)) → (gs : List Grant) × LawfulGrants rows gs × Settled (rows_after rows gs)
    go (inl g) more = let m = more g.0 g.1 in (g.0 ∷ m.0, (g.1, m.1), m.2)
    go (inr f) more = ([], tt, f)

-- The loosened jobs are those that lawful grants can make active.
pub loosened_can_be_freed : LoosenedCanBeFreed
loosened_can_be_freed rows v h =
    (freed, λ f S c. ((closed_as_before_grants rows f.0 f.1 S).0 c).active v (omega (arith, as_many_rows_after_grants rows f.0)) f.2)
  where
    freed : IsLoosened rows v → CanBeFreed rows v
    freed loosened =
        let m = settled_by_grants (suc (waits rows)) rows (omega arith) in
        let after = rows_after rows m.0 in
        let held : active after v ≡ true = loosened (active after) ((closed_as_before_grants rows m.0 m.1 (active after)).1 (settled_actives_are_closed after m.2)) in
        (m.0, m.1, grind (arith, nat_tests))
