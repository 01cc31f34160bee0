-- What happens to a plain book, scripts among it, and the law of its lives.
use Rattle.std.specs.Prelude.{ℕ, List, Result}
use Rattle.rows.specs.Waiting.{Waiting}
use Rattle.groups.specs.History.{History}
use Rattle.histories.specs.Rules.{Parameters}
use Rattle.histories.specs.Machines.{Machine, book_machine, history_machine}
use Rattle.lives.specs.Law.{LawOfLives}
use Rattle.store.specs.Plain.{Edit, plain, PlainBook, Fixed}
use Rattle.scripts.specs.Workspace.{Workspace}
use Rattle.scripts.specs.ScriptCalls.{CountsAs}
use Rattle.scripts.specs.Scripts.{RunsScript}
use Rattle.scripts.specs.declared.fault.StoppedScript.{StoppedScript}
use Rattle.scripts.specs.declared.fault.FinishedScript.{FinishedScript}

-- A script and its answer, with what was lent to it, before and after.
pub record ScriptRun : Type 0 where
  pub script : List ℕ
  pub before : Workspace
  pub answer : Result FinishedScript StoppedScript
  pub after : Workspace

-- It happens to a book or a history, by the rules of scripts.
abbrev pub ScriptHappens : {X : Type 0} → Machine Waiting Edit X → X → ScriptRun → X → Type 0
ScriptHappens S x r y = RunsScript S x r.before r.script r.answer y r.after

-- To a book.
abbrev pub RunsOnBook : PlainBook → ScriptRun → PlainBook → Type 0
RunsOnBook = ScriptHappens (book_machine plain)

-- To a history, which is then fed the calls that the script counts as.
pub record RunsOnHistory (t : Parameters Fixed) (h : History Edit) (r : ScriptRun) (i : History Edit) : Type 0 where
  pub does : ScriptHappens (history_machine plain t) h r i
  pub counts : CountsAs (history_machine plain t) h r.script r.answer i

-- Whatever happens to a plain book, scripts among it, happens to the history that is told the same at creation. Of a script the history is
-- fed the calls that it counts as.
abbrev pub LawOfPlainBooks : Type 0
LawOfPlainBooks = LawOfLives plain RunsOnBook RunsOnHistory
