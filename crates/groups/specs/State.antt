-- Rows with open groups, and what each call makes of them.
use Rattle.std.specs.Prelude.{ℕ, Bool, ◌&&◌, List, [], ◌∷◌, ◌++◌, length, ◌==◌, nat_le, nat_lt, slice_index_or, slice_set, sum_by}
use Rattle.groups.specs.declared.store.UndoRecord.{UndoRecord}
use Rattle.groups.specs.declared.store.TheConstants.{DEPTH_MAX}

-- The rows; the undo records that each open group would put back, the innermost group first and in each the oldest first;
-- the mark of its tickets; and how many undo records the trail has room for.
pub record State (P : Type 0) : Type 0 where
  pub rows : List P
  pub groups : List (List (UndoRecord P))
  pub mark : ℕ
  pub trail_room : ℕ

-- What answers go by: the rows, how many groups are open, and how many records or calls these hold.
pub record Summary (P : Type 0) : Type 0 where
  pub rows : List P
  pub depth : ℕ
  pub recorded : ℕ

-- What the answers of a state go by.
abbrev pub summary : {P : Type 0} → State P → Summary P
summary s = record { rows = s.rows; depth = length s.groups; recorded = sum_by length s.groups }

-- The trail is full for the next write: a group is open, and the groups hold as many records as there is room.
abbrev pub full : {P : Type 0} → ℕ → Summary P → Bool
full trail_room f = nat_lt 0 f.depth && nat_le trail_room f.recorded

-- One more group may be opened.
abbrev pub can_open : {P : Type 0} → Summary P → Bool
can_open f = nat_lt f.depth DEPTH_MAX

-- A ticket id is the innermost group's: its mark is the right one, and its depth is the number of open groups, not 0.
abbrev pub innermost : {P : Type 0} → ℕ → Summary P → (mark depth : ℕ) → Bool
innermost m f mark depth = mark == m && (depth == f.depth && nat_lt 0 depth)

-- What stands in a row before `row` is written there.
abbrev pub undo_record : {P : Type 0} → List P → ℕ → P → UndoRecord P
undo_record rows job row = record { job = job; row = slice_index_or rows job row }

-- An undo record joins the innermost group's; outside of groups it is forgotten.
abbrev pub with_undo_record : {X : Type 0} → List (List X) → X → List (List X)
with_undo_record [] x = []
with_undo_record (g ∷ gs) x = (g ++ x ∷ []) ∷ gs

-- A write, with what stood there kept for the innermost group.
abbrev pub written : {P : Type 0} → State P → ℕ → P → State P
written s job row = record s { rows = slice_set s.rows job row; groups = with_undo_record s.groups (undo_record s.rows job row) }

-- One more group, which has nothing to put back yet.
abbrev pub opened : {P : Type 0} → State P → State P
opened s = record s { groups = [] ∷ s.groups }

-- The innermost group's undo records are left to the next group outwards; the outermost's are forgotten.
abbrev pub merged : {X : Type 0} → List (List X) → List (List X)
merged [] = []
merged (g ∷ []) = []
merged (g ∷ (h ∷ gs)) = (h ++ g) ∷ gs

-- The innermost group ends, and its writes stay.
abbrev pub kept : {P : Type 0} → State P → State P
kept s = record s { groups = merged s.groups }

-- The rows with undo records put back, the newest of them first.
abbrev pub rolled_back : {P : Type 0} → List P → List (UndoRecord P) → List P
rolled_back rows [] = rows
rolled_back rows (o ∷ os) = slice_set (rolled_back rows os) o.job o.row

-- The rows with the innermost group's undo records put back.
abbrev pub restored : {P : Type 0} → List P → List (List (UndoRecord P)) → List P
restored rows [] = rows
restored rows (g ∷ gs) = rolled_back rows g

-- All groups but the innermost.
abbrev pub outside : {X : Type 0} → List (List X) → List (List X)
outside [] = []
outside (g ∷ gs) = gs

-- The innermost group ends, and its writes are undone.
abbrev pub cancelled : {P : Type 0} → State P → State P
cancelled s = record s { rows = restored s.rows s.groups; groups = outside s.groups }
