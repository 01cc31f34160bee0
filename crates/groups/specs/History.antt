-- The calls that still count: lists of them, and the rows that they draw.
use Rattle.std.specs.Prelude.{ℕ, List, [], ◌∷◌, ◌++◌, length, slice_set, sum_by}
use Rattle.groups.specs.State.{Summary}

-- The calls outside of groups, and those of each open group, the innermost group first.
pub data History (C : Type 0) : Type 0 where
  history : (outer : List C) (groups : List (List C)) → History C

-- No call yet.
abbrev pub begun : {C : Type 0} → History C
begun = history [] []

-- A call joins the end of the innermost list.
abbrev pub join : {C : Type 0} → History C → C → History C
join (history o []) c = history (o ++ c ∷ []) []
join (history o (g ∷ gs)) c = history o ((g ++ c ∷ []) ∷ gs)

-- An opening adds an empty list.
abbrev pub nest : {C : Type 0} → History C → History C
nest (history o gs) = history o ([] ∷ gs)

-- A keeping appends the calls of the innermost list to the list around it; where no group is open, nothing changes.
abbrev pub merge : {C : Type 0} → History C → History C
merge (history o []) = history o []
merge (history o (g ∷ [])) = history (o ++ g) []
merge (history o (g ∷ (h ∷ gs))) = history o ((h ++ g) ∷ gs)

-- A cancelling forgets the innermost list.
abbrev pub forget : {C : Type 0} → History C → History C
forget (history o []) = history o []
forget (history o (g ∷ gs)) = history o gs

-- A call writes the row of one job, and goes by the rows that it finds.
module _ {P C : Type 0} (job : C → ℕ) (next : List P → C → P) where
  -- The rows after some calls, made in order.
  abbrev pub rows_after_calls : List P → List C → List P
  rows_after_calls rows [] = rows
  rows_after_calls rows (c ∷ cs) = rows_after_calls (slice_set rows (job c) (next rows c)) cs

  -- The rows that the surviving calls draw on the first ones, from the outer list inwards.
  abbrev pub rows_of_history : List P → List C → List (List C) → List P
  rows_of_history first o [] = rows_after_calls first o
  rows_of_history first o (g ∷ gs) = rows_after_calls (rows_of_history first o gs) g

  -- What a history's answers go by.
  abbrev pub history_summary : List P → History C → Summary P
  history_summary first (history o gs) = record { rows = rows_of_history first o gs; depth = length gs; recorded = sum_by length gs }
