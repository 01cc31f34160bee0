-- A state seen through its rows' meaning.
use Rattle.std.specs.Prelude.{ℕ, map, take}
use Rattle.groups.specs.declared.store.UndoRecord.{UndoRecord}
use Rattle.groups.specs.State.{State}

-- An undo record, by what it means.
abbrev pub undo_record_view : {P Q : Type 0} → (P → Q) → UndoRecord P → UndoRecord Q
undo_record_view f o = record { job = o.job; row = f o.row }

-- The first n rows and the undo records, by what they mean; mark and room are the same.
abbrev pub view : {P Q : Type 0} → ℕ → (P → Q) → State P → State Q
view n f s = record {
  rows = map f (take n s.rows);
  groups = map (map (undo_record_view f)) s.groups;
  mark = s.mark;
  trail_room = s.trail_room;
}
