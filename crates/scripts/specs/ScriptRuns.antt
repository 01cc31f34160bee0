-- A script that is run on a book.
use Rattle.std.specs.Prelude.{ℕ, List, Ok, Err, Result}
use Rattle.groups.specs.History.{History}
use Rattle.store.specs.Plain.{Edit, plain, PlainBook}
use Rattle.histories.specs.Rules.{parameters}
use Rattle.histories.specs.CallSteps.{Represents}
use Rattle.scripts.specs.Workspace.{Workspace}
use Rattle.scripts.specs.Scripts.{RunsScript}
use Rattle.histories.specs.Machines.{book_machine, history_machine}
use Rattle.scripts.specs.declared.fault.StoppedScript.{StoppedScript}
use Rattle.scripts.specs.declared.fault.FinishedScript.{FinishedScript}

-- The book does as the rules of scripts say; and whatever history it represents before, that history does the same by the same rules,
-- and is the one that the book represents after.
pub record ScriptStep (s : PlainBook) (l : Workspace) (script : List ℕ) (answer : Result FinishedScript StoppedScript) (s' : PlainBook) (l' : Workspace) : Type 0 where
  pub does : RunsScript (book_machine plain) s l script answer s' l'
  pub represents : (h : History Edit) → Represents plain s h → (h' : History Edit) × RunsScript (history_machine plain (parameters s)) h l script answer h' l' × Represents plain s' h'

-- How many answer bytes a script has written.
abbrev pub script_written : Result FinishedScript StoppedScript → ℕ
script_written (Ok f) = f.written
script_written (Err s) = s.written
