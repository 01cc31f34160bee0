-- Whatever history a state represents, after each call it represents that history fed the call.
use Rattle.std.proofs.Common.{◌≡◌, ℕ, ◌+◌, List, [], ◌∷◌, ◌++◌, length, get_or, set, sym, refl, ap, ◌∙◌, subst, arith, length-append, sum_by}
use Rattle.std.proofs.lemmas.List.Sums.{sum_by-cons}
use Rattle.std.proofs.lemmas.List.{length_push, set-set, set-get_or}
use Rattle.groups.specs.declared.store.UndoRecord.{UndoRecord}
use Rattle.groups.specs.State.{State, Summary, summary, undo_record, with_undo_record, merged, rolled_back, restored, outside, written, opened, kept, cancelled}
use Rattle.groups.specs.History.{History, history, join, nest, merge, forget, rows_after_calls, rows_of_history, history_summary}
use Rattle.groups.specs.Representation.{RepresentsLists, RepresentsParts, RepresentsFrom}
use Rattle.groups.proofs.RollBackLemmas.{rolled_back-++}

-- a row written and put back
put_back_over : {P : Type 0} (rows : List P) (us : List (UndoRecord P)) (job : ℕ) (row : P) → rolled_back (set rows job row) (us ++ undo_record rows job row ∷ []) ≡ rolled_back rows us
put_back_over rows us job row =
    rolled_back-++ (set rows job row) us (undo_record rows job row ∷ [])
    ∙ ap (λ r. rolled_back r us) (set-set rows job row (get_or rows job row) ∙ set-get_or rows job row)

module _ {P C : Type 0} (job : C → ℕ) (next : List P → C → P) where
  rows_after_calls-++ : (rows : List P) (xs ys : List C) → rows_after_calls job next rows (xs ++ ys) ≡ rows_after_calls job next (rows_after_calls job next rows xs) ys
  rows_after_calls-++ rows [] ys = refl
  rows_after_calls-++ rows (x ∷ xs) ys = rows_after_calls-++ (set rows (job x) (next rows x)) xs ys

  undoes_rows : (first : List P) (o : List C) (gs : List (List C)) (rows : List P) (us : List (List (UndoRecord P))) → RepresentsLists job next first o gs rows us → rows ≡ rows_of_history job next first o gs
  undoes_rows first o [] rows [] w = w
  undoes_rows first o [] rows (u ∷ us) w = absurd w
  undoes_rows first o (g ∷ gs) rows [] w = absurd w
  undoes_rows first o (g ∷ gs) rows (u ∷ us) w = w.0

  undoes_depth : (first : List P) (o : List C) (gs : List (List C)) (rows : List P) (us : List (List (UndoRecord P))) → RepresentsLists job next first o gs rows us → length us ≡ length gs
  undoes_depth first o [] rows [] w = refl
  undoes_depth first o [] rows (u ∷ us) w = absurd w
  undoes_depth first o (g ∷ gs) rows [] w = absurd w
  undoes_depth first o (g ∷ gs) rows (u ∷ us) w = ap Prim.Native.Nat.suc (undoes_depth first o gs (rolled_back rows u) us w.2)

  undoes_used : (first : List P) (o : List C) (gs : List (List C)) (rows : List P) (us : List (List (UndoRecord P))) → RepresentsLists job next first o gs rows us → sum_by length us ≡ sum_by length gs
  undoes_used first o [] rows [] w = refl
  undoes_used first o [] rows (u ∷ us) w = absurd w
  undoes_used first o (g ∷ gs) rows [] w = absurd w
  undoes_used first o (g ∷ gs) rows (u ∷ us) w = omega (arith, sum_by-cons length u us, sum_by-cons length g gs, w.1, undoes_used first o gs (rolled_back rows u) us w.2)

  same_summary : {rows rows' : List P} {d d' u u' : ℕ} → rows ≡ rows' → d ≡ d' → u ≡ u' → ◌≡◌ {A = Summary P} (record { rows = rows; depth = d; recorded = u }) (record { rows = rows'; depth = d'; recorded = u' })
  same_summary a b c = cc

  -- what a history's answers go by is what the state's go by
  pub represents_summary : (first : List P) (s : State P) (h : History C) → RepresentsFrom job next first s h → summary s ≡ history_summary job next first h
  represents_summary first s (history o gs) w =
      same_summary (undoes_rows first o gs s.rows s.groups w) (undoes_depth first o gs s.rows s.groups w) (undoes_used first o gs s.rows s.groups w)

  join_undoes : (first : List P) (o : List C) (gs : List (List C)) (c : C) (rows : List P) (us : List (List (UndoRecord P))) → RepresentsLists job next first o gs rows us → RepresentsParts job next first (set rows (job c) (next rows c)) (with_undo_record us (undo_record rows (job c) (next rows c))) (join (history o gs) c)
  join_undoes first o [] c rows [] w = ap (λ r. set r (job c) (next r c)) w ∙ sym (rows_after_calls-++ first o (c ∷ []))
  join_undoes first o [] c rows (u ∷ us) w = absurd w
  join_undoes first o (g ∷ gs) c rows [] w = absurd w
  join_undoes first o (g ∷ gs) c rows (u ∷ us) w = (
    ap (λ r. set r (job c) (next r c)) w.0 ∙ sym (rows_after_calls-++ (rows_of_history job next first o gs) g (c ∷ [])),
    length_push u (undo_record rows (job c) (next rows c)) ∙ ap (λ n. n + 1) w.1 ∙ sym (length_push g c),
    subst (λ r. RepresentsLists job next first o gs r us) (sym (put_back_over rows u (job c) (next rows c))) w.2,
  )

  pub write_represents : (first : List P) (s : State P) (c : C) (h : History C) → RepresentsFrom job next first s h → RepresentsFrom job next first (written s (job c) (next s.rows c)) (join h c)
  write_represents first s c (history o gs) w = join_undoes first o gs c s.rows s.groups w

  pub open_represents : (first : List P) (s : State P) (h : History C) → RepresentsFrom job next first s h → RepresentsFrom job next first (opened s) (nest h)
  open_represents first s (history o gs) w = (undoes_rows first o gs s.rows s.groups w, refl, w)

  merge_undoes : (first : List P) (o : List C) (gs : List (List C)) (rows : List P) (us : List (List (UndoRecord P))) → RepresentsLists job next first o gs rows us → RepresentsParts job next first rows (merged us) (merge (history o gs))
  merge_undoes first o [] rows [] w = w
  merge_undoes first o [] rows (u ∷ us) w = absurd w
  merge_undoes first o (g ∷ gs) rows [] w = absurd w
  merge_undoes first o (g ∷ []) rows (u ∷ []) w = w.0 ∙ sym (rows_after_calls-++ first o g)
  merge_undoes first o (g ∷ []) rows (u ∷ (v ∷ us)) w = absurd w.2
  merge_undoes first o (g ∷ (h ∷ gs)) rows (u ∷ []) w = absurd w.2
  merge_undoes first o (g ∷ (h ∷ gs)) rows (u ∷ (v ∷ us)) w = (
    w.0 ∙ sym (rows_after_calls-++ (rows_of_history job next first o gs) h g),
    omega (arith, length-append v u, length-append h g, w.1, w.2.1),
    subst (λ r. RepresentsLists job next first o gs r us) (sym (rolled_back-++ rows v u)) w.2.2,
  )

  pub keep_represents : (first : List P) (s : State P) (h : History C) → RepresentsFrom job next first s h → RepresentsFrom job next first (kept s) (merge h)
  keep_represents first s (history o gs) w = merge_undoes first o gs s.rows s.groups w

  forget_undoes : (first : List P) (o : List C) (gs : List (List C)) (rows : List P) (us : List (List (UndoRecord P))) → RepresentsLists job next first o gs rows us → RepresentsParts job next first (restored rows us) (outside us) (forget (history o gs))
  forget_undoes first o [] rows [] w = w
  forget_undoes first o [] rows (u ∷ us) w = absurd w
  forget_undoes first o (g ∷ gs) rows [] w = absurd w
  forget_undoes first o (g ∷ gs) rows (u ∷ us) w = w.2

  pub cancel_represents : (first : List P) (s : State P) (h : History C) → RepresentsFrom job next first s h → RepresentsFrom job next first (cancelled s) (forget h)
  cancel_represents first s (history o gs) w = forget_undoes first o gs s.rows s.groups w
