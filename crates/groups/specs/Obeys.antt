-- A law of rows, kept by the rows and by the undo records of every group.
use Rattle.std.specs.Prelude.{◌≡◌, ℕ, Bool, true, List, length}
use Rattle.std.specs.List.{list_all}
use Rattle.rows.specs.Obeys.{rows_obey}
use Rattle.groups.specs.declared.store.UndoRecord.{UndoRecord}
use Rattle.groups.specs.declared.store.TheConstants.{ROWS}
use Rattle.groups.specs.State.{State}

-- Every undo record obeys the law of its job.
abbrev pub undo_records_obey : {P : Type 0} → (ℕ → P → Bool) → List (UndoRecord P) → Bool
undo_records_obey {P} law undo_records = list_all (λ (o : UndoRecord P). law o.job o.row) undo_records

-- So do those of every group.
abbrev pub groups_obey : {P : Type 0} → (ℕ → P → Bool) → List (List (UndoRecord P)) → Bool
groups_obey law groups = list_all (undo_records_obey law) groups

-- The rows that groups keep obey the law of their jobs, and so do all that could be put back.
pub record Obeys {P : Type 0} (law : ℕ → P → Bool) (s : State P) : Type 0 where
  pub whole : length s.rows ≡ ROWS
  pub rows : rows_obey law 0 s.rows ≡ true
  pub undo_records : groups_obey law s.groups ≡ true
