-- Every call keeps a law of rows.
use Rattle.std.proofs.Common.{◌≡◌, ℕ, ◌<◌, ◌≤◌, Bool, true, false, cond, List, [], ◌∷◌, ◌++◌, take, Some, None, Option, IfSome, Bor, refl, ap, ◌∙◌, arith}
use Rattle.std.specs.Slice.{IsGetResult}
use Rattle.std.proofs.lemmas.Bool.{and_from, and_parts}
use Rattle.std.proofs.lemmas.List.{length-set, length-replicate, length-take-le, get_or-take}
use Rattle.rows.specs.Obeys.{rows_obey}
use Rattle.rows.proofs.ObeysLemmas.{obeyed_at, set_obeys, replicate_obeys, take_obeys, map_obeys}
use Rattle.groups.specs.declared.store.Ending.{Ending}
use Rattle.groups.specs.declared.store.Ending.TheVariants.{Keep, Cancel}
use Rattle.groups.specs.declared.store.UndoRecord.{UndoRecord}
use Rattle.groups.specs.declared.store.TheConstants.{ROWS}
use Rattle.groups.specs.Obeys.{undo_records_obey, groups_obey, Obeys}
use Rattle.groups.specs.State.{State, undo_record, with_undo_record, merged, rolled_back, restored, outside, written, kept, cancelled}
use Rattle.groups.specs.Beginning.{fresh}
use Rattle.groups.specs.TicketIds.{ended_as}
use Rattle.groups.specs.StateViews.{view}
use Rattle.groups.proofs.ViewLemmas.{length-restored}

module _ {P : Type 0} (law : ℕ → P → Bool) where
  undo_records-++ : (xs ys : List (UndoRecord P)) → undo_records_obey law xs ≡ true → undo_records_obey law ys ≡ true → undo_records_obey law (xs ++ ys) ≡ true
  undo_records-++ [] ys a b = b
  undo_records-++ (x ∷ xs) ys a b = and_from _ _ (and_parts (law x.job x.row) _ a).0 (undo_records-++ xs ys (and_parts (law x.job x.row) _ a).1 b)

  rolled_back_obeys : (rows : List P) (os : List (UndoRecord P)) → undo_records_obey law os ≡ true → rows_obey law 0 rows ≡ true → rows_obey law 0 (rolled_back rows os) ≡ true
  rolled_back_obeys rows [] a o = o
  rolled_back_obeys rows (x ∷ os) a o =
      set_obeys law (rolled_back rows os) x.job x.row (and_parts (law x.job x.row) _ a).0 (rolled_back_obeys rows os (and_parts (law x.job x.row) _ a).1 o)

  recorded_obeys : (gs : List (List (UndoRecord P))) (x : UndoRecord P) → law x.job x.row ≡ true → groups_obey law gs ≡ true → groups_obey law (with_undo_record gs x) ≡ true
  recorded_obeys [] x l o = refl
  recorded_obeys (g ∷ gs) x l o =
      and_from _ _ (undo_records-++ g (x ∷ []) (and_parts (undo_records_obey law g) _ o).0 (and_from _ _ l refl)) (and_parts (undo_records_obey law g) _ o).1

  merged_obeys : (gs : List (List (UndoRecord P))) → groups_obey law gs ≡ true → groups_obey law (merged gs) ≡ true
  merged_obeys [] o = refl
  merged_obeys (g ∷ []) o = refl
  merged_obeys (g ∷ (h ∷ gs)) o =
      let inner = and_parts (undo_records_obey law g) _ o in
      let next = and_parts (undo_records_obey law h) _ inner.1 in
      and_from _ _ (undo_records-++ h g next.0 inner.0) next.1

  restored_obeys : (rows : List P) (gs : List (List (UndoRecord P))) → rows_obey law 0 rows ≡ true → groups_obey law gs ≡ true → rows_obey law 0 (restored rows gs) ≡ true
  restored_obeys rows [] o l = o
  restored_obeys rows (g ∷ gs) o l = rolled_back_obeys rows g (and_parts (undo_records_obey law g) _ l).0 o

  outside_obeys : (gs : List (List (UndoRecord P))) → groups_obey law gs ≡ true → groups_obey law (outside gs) ≡ true
  outside_obeys [] l = refl
  outside_obeys (g ∷ gs) l = (and_parts (undo_records_obey law g) _ l).1

  -- at creation
  pub fresh_obeys : (row : P) (mark memory : ℕ) → ((k : ℕ) → law k row ≡ true) → Obeys law (fresh ROWS row mark memory)
  fresh_obeys row mark memory l = record { whole = length-replicate ROWS row; rows = replicate_obeys law ROWS 0 row l; undo_records = refl }

  module _ (s : State P) (o : Obeys law s) where
    pub written_obeys : (job : ℕ) (row : P) → job < ROWS → law job row ≡ true → Obeys law (written s job row)
    written_obeys job row l here = record {
      whole = length-set s.rows job row ∙ o.whole;
      rows = set_obeys law s.rows job row here o.rows;
      undo_records = recorded_obeys s.groups (undo_record s.rows job row) (obeyed_at law s.rows job row (omega (arith, o.whole)) o.rows) o.undo_records;
    }

    pub kept_obeys : Obeys law (kept s)
    kept_obeys = record { whole = o.whole; rows = o.rows; undo_records = merged_obeys s.groups o.undo_records }

    pub cancelled_obeys : Obeys law (cancelled s)
    cancelled_obeys = record { whole = length-restored s.rows s.groups ∙ o.whole; rows = restored_obeys s.rows s.groups o.rows o.undo_records; undo_records = outside_obeys s.groups o.undo_records }

    pub ended_obeys : (e : Ending) → Obeys law (ended_as e s)
    ended_obeys Keep = kept_obeys
    ended_obeys Cancel = cancelled_obeys

    -- whichever of two states
    pub obeys_if : (q : Bool) (t : State P) → Obeys law t → Obeys law (cond q t s)
    obeys_if true t k = k
    obeys_if false t k = o

    -- a row that is read off the first n
    pub read_obeys : (n job : ℕ) (item : Option (Bor P)) → n ≤ ROWS → IsGetResult (take n s.rows) job job item → IfSome item (λ p. law job p.now ≡ true)
    read_obeys n job None w l = tt
    read_obeys n job (Some p) w l =
        let within : job < n = omega (arith, l.3.0, length-take-le n s.rows (omega (arith, o.whole))) in
        ap (law job) (l.1 ∙ get_or-take n s.rows job p.now within) ∙ obeyed_at law s.rows job p.now (omega (arith, o.whole)) o.rows

    -- what the first n rows mean obeys what follows from the law
    pub view_obeys : {Q : Type 0} (n : ℕ) (f : P → Q) (law' : ℕ → Q → Bool) → ((k : ℕ) (p : P) → law k p ≡ true → law' k (f p) ≡ true) → rows_obey law' 0 (view n f s).rows ≡ true
    view_obeys n f law' follows = map_obeys law law' f follows 0 (take n s.rows) (take_obeys law n 0 s.rows o.rows)
