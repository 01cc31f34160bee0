-- When rows with open groups represent a history.
use Rattle.std.specs.Prelude.{◌≡◌, ℕ, List, [], ◌∷◌, length}
use Rattle.groups.specs.declared.store.UndoRecord.{UndoRecord}
use Rattle.groups.specs.State.{State, rolled_back}
use Rattle.groups.specs.History.{History, history, rows_after_calls, rows_of_history}

module _ {P C : Type 0} (job : C → ℕ) (next : List P → C → P) where
  -- The rows are those that the history draws; there is a group of undo records for each of its lists, with as many of them
  -- as the list has calls; and putting a group's undo records back gives the rows that the history draws without that list.
  abbrev pub RepresentsLists : List P → List C → List (List C) → List P → List (List (UndoRecord P)) → Type 0
  RepresentsLists first o [] rows [] = rows ≡ rows_after_calls job next first o
  RepresentsLists first o [] rows (u ∷ us) = ⊥
  RepresentsLists first o (g ∷ gs) rows [] = ⊥
  RepresentsLists first o (g ∷ gs) rows (u ∷ us) =
      (rows ≡ rows_of_history job next first o (g ∷ gs)) × (length u ≡ length g) × RepresentsLists first o gs (rolled_back rows u) us

  -- So it is of a history, taken apart.
  abbrev pub RepresentsParts : List P → List P → List (List (UndoRecord P)) → History C → Type 0
  RepresentsParts first rows us (history o gs) = RepresentsLists first o gs rows us

  -- A state represents a history that began with the first rows: same rows, same depth, and what would be undone.
  abbrev pub RepresentsFrom : List P → State P → History C → Type 0
  RepresentsFrom first s h = RepresentsParts first s.rows s.groups h
