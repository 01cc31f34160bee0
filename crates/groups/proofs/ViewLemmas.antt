-- Each call does the same to a state and to what is seen of it.
use Rattle.std.proofs.Common.{◌≡◌, ℕ, zero, suc, ◌<◌, ◌≤◌, List, [], ◌∷◌, map, length, take, set, replicate, sym, refl, ap, ◌∙◌, inl, inr, arith, sum_by}
use Rattle.std.proofs.lemmas.List.Sums.{sum_by-cons}
use lib.ListN.{get_or-map}
use lib.Seq.{take-set-lt}
use Rattle.std.proofs.lemmas.List.{map-set, map-append, length-map, length-set, length-take-le, get_or-take, take-set-le, set_past, take-replicate}
use Rattle.std.proofs.lemmas.Bool.{cases_lt}
use Rattle.groups.specs.declared.store.UndoRecord.{UndoRecord}
use Rattle.groups.specs.State.{State, summary, undo_record, with_undo_record, merged, rolled_back, restored, outside, written, kept, cancelled}
use Rattle.groups.specs.Beginning.{fresh}
use Rattle.groups.specs.StateViews.{undo_record_view, view}
use Rattle.groups.proofs.RollBackLemmas.{same_state}

pub length-rolled_back : {P : Type 0} (rows : List P) (os : List (UndoRecord P)) → length (rolled_back rows os) ≡ length rows
length-rolled_back rows [] = refl
length-rolled_back rows (o ∷ os) = length-set (rolled_back rows os) o.job o.row ∙ length-rolled_back rows os

pub length-restored : {P : Type 0} (rows : List P) (gs : List (List (UndoRecord P))) → length (restored rows gs) ≡ length rows
length-restored rows [] = refl
length-restored rows (g ∷ gs) = length-rolled_back rows g

module _ {P Q : Type 0} (f : P → Q) where
  map_replicate : (n : ℕ) (x : P) → map f (replicate n x) ≡ replicate n (f x)
  map_replicate zero x = refl
  map_replicate (suc n) x = ap (λ ys. f x ∷ ys) (map_replicate n x)

  total_map : (gs : List (List P)) → sum_by length (map (map f) gs) ≡ sum_by length gs
  total_map [] = refl
  total_map (g ∷ gs) = omega (arith, sum_by-cons length (map f g) (map (map f) gs), sum_by-cons length g gs, length-map g f, total_map gs)

  recorded_map : (gs : List (List P)) (x : P) → map (map f) (with_undo_record gs x) ≡ with_undo_record (map (map f) gs) (f x)
  recorded_map [] x = refl
  recorded_map (g ∷ gs) x = ap (λ ys. ys ∷ map (map f) gs) (map-append f g (x ∷ []))

  merged_map : (gs : List (List P)) → map (map f) (merged gs) ≡ merged (map (map f) gs)
  merged_map [] = refl
  merged_map (g ∷ []) = refl
  merged_map (g ∷ (h ∷ gs)) = ap (λ ys. ys ∷ map (map f) gs) (map-append f h g)

  outside_map : (gs : List (List P)) → map (map f) (outside gs) ≡ outside (map (map f) gs)
  outside_map [] = refl
  outside_map (g ∷ gs) = refl

module _ {P Q : Type 0} (n : ℕ) (f : P → Q) where
  -- a write beyond n is not seen
  take_set_any : (rows : List P) (job : ℕ) (row : P) → n ≤ length rows → take n (set rows job row) ≡ set (take n rows) job row
  take_set_any rows job row l = elim (cases_lt job n) [
    | inl h ↦ take-set-lt n rows job row h
    | inr h ↦ take-set-le n rows job row h ∙ sym (set_past (take n rows) job row (omega (arith, length-take-le n rows l)))
  ]

  set_view : (rows : List P) (job : ℕ) (row : P) → n ≤ length rows → map f (take n (set rows job row)) ≡ set (map f (take n rows)) job (f row)
  set_view rows job row l = ap (map f) (take_set_any rows job row l) ∙ map-set f (take n rows) job row

  undo_record_seen : (rows : List P) (job : ℕ) (row : P) → job < n → undo_record_view f (undo_record rows job row) ≡ undo_record (map f (take n rows)) job (f row)
  undo_record_seen rows job row h =
      let e = get_or-map f (take n rows) job row ∙ ap f (get_or-take n rows job row h) in cc

  rolled_back_view : (rows : List P) (os : List (UndoRecord P)) → n ≤ length rows → map f (take n (rolled_back rows os)) ≡ rolled_back (map f (take n rows)) (map (undo_record_view f) os)
  rolled_back_view rows [] l = refl
  rolled_back_view rows (o ∷ os) l =
      let m : n ≤ length (rolled_back rows os) = omega (arith, length-rolled_back rows os) in
      set_view (rolled_back rows os) o.job o.row m ∙ ap (λ r. set r o.job (f o.row)) (rolled_back_view rows os l)

  restored_view : (rows : List P) (gs : List (List (UndoRecord P))) → n ≤ length rows → map f (take n (restored rows gs)) ≡ restored (map f (take n rows)) (map (map (undo_record_view f)) gs)
  restored_view rows [] l = refl
  restored_view rows (g ∷ gs) l = rolled_back_view rows g l

  pub view_written : (s : State P) (job : ℕ) (row : P) → n ≤ length s.rows → job < n → view n f (written s job row) ≡ written (view n f s) job (f row)
  view_written s job row l h =
      same_state (set_view s.rows job row l) (recorded_map (undo_record_view f) s.groups (undo_record s.rows job row) ∙ ap (with_undo_record (map (map (undo_record_view f)) s.groups)) (undo_record_seen s.rows job row h)) refl refl

  pub view_kept : (s : State P) → view n f (kept s) ≡ kept (view n f s)
  view_kept s = same_state refl (merged_map (undo_record_view f) s.groups) refl refl

  pub view_cancelled : (s : State P) → n ≤ length s.rows → view n f (cancelled s) ≡ cancelled (view n f s)
  view_cancelled s l = same_state (restored_view s.rows s.groups l) (outside_map (undo_record_view f) s.groups) refl refl

  pub view_fresh : (k : ℕ) (row : P) (mark memory : ℕ) → n ≤ k → view n f (fresh k row mark memory) ≡ fresh n (f row) mark memory
  view_fresh k row mark memory l = same_state (ap (map f) (take-replicate n k row l) ∙ map_replicate f n row) refl refl refl

  -- as many groups, with as many undo records
  pub view_depth : (s : State P) → (summary (view n f s)).depth ≡ (summary s).depth
  view_depth s = length-map s.groups (map (undo_record_view f))

  pub view_used : (s : State P) → (summary (view n f s)).recorded ≡ (summary s).recorded
  view_used s = total_map (undo_record_view f) s.groups

  -- there are n rows
  pub length_view : (s : State P) → n ≤ length s.rows → length (view n f s).rows ≡ n
  length_view s l = length-map (take n s.rows) f ∙ length-take-le n s.rows l
