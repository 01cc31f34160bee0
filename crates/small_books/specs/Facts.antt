-- What the table of small books says.
use Rattle.std.specs.Prelude.{◌≡◌, ℕ, List, [], length, take, Result, slice_index_or}
use Rattle.std.specs.List.{AllByRecursion}
use Rattle.carriers.specs.declared.message.Message.{Message}
use Rattle.exchange.specs.Records.{blank}
use Rattle.exchange.specs.Runs.{RunState, Exchange}
use Rattle.chart.specs.Check.{checked, chart_rows}
use Rattle.reduction.specs.Reduced.{Reduced}
use Rattle.book.specs.Rules.{says, after}
use Rattle.book.specs.Plain.{plain, PlainBook}
use Rattle.book.specs.Workspace.{Workspace}
use Rattle.book.specs.FinishedScript.{FinishedScript}
use Rattle.book.specs.StoppedScript.{StoppedScript}
use Rattle.book.specs.ScriptCalls.{after_calls, AllAccepted}
use Rattle.book.specs.ScriptRuns.{script_written}
use Rattle.book.specs.Scripts.{RunsScript}
use Rattle.book.specs.Machines.{book_machine}
use Rattle.small_books.specs.Lines.{RunLine, CallLine, RefusalLine, CallsLine, ScriptLine, ChartLine, ReductionLine, end_of, Line, of_run, of_call, of_refusal, of_calls, of_script, of_chart, of_reduction, of_limit}
use Rattle.small_books.specs.Table.{table}

-- Every run that is over has had so many deliveries, in whatever order they came, and leaves the initiator free or not, as told;
-- and there is such a run.
pub record Tells (a : RunLine) : Type 0 where
  pub every : (order : List Message) (s : RunState) → Exchange a.rows a.initiator order s → s.waiting ≡ []
      → (length order ≡ a.deliveries) × ((slice_index_or s.records a.initiator blank).free ≡ a.free)
  pub some : (order : List Message) × (s : RunState) × Exchange a.rows a.initiator order s × (s.waiting ≡ [])

-- The book answers the call, and has these rows after it.
pub record Answers (c : CallLine) : Type 0 where
  pub answer : says plain c.before c.call ≡ c.answer
  pub rows : (after plain c.before c.call).state.rows ≡ c.rows

-- The book refuses the call so, and is all as it was before.
pub record Refuses (c : RefusalLine) : Type 0 where
  pub answer : says plain c.before c.call ≡ c.answer
  pub unchanged : after plain c.before c.call ≡ c.before

-- The book accepts each of the calls, as those before it have left it, and has these rows after the last.
pub record AcceptsAll (c : CallsLine) : Type 0 where
  pub accepted : AllAccepted (book_machine plain) c.before c.calls
  pub rows : (after_calls (book_machine plain) c.before c.calls).state.rows ≡ c.rows

-- However the script goes by the rules, in whatever order a carrier hands out the messages of its detections: it ends so, and has written
-- these bytes; and there is such a way.
pub record EndsSo (l : ScriptLine) : Type 0 where
  pub every : (answer : Result FinishedScript StoppedScript) (left : PlainBook) (workspace : Workspace) → RunsScript (book_machine plain) l.before l.workspace l.script answer left workspace
      → (end_of answer ≡ l.end) × (take (script_written answer) workspace.bytes ≡ l.bytes)
  pub some : (answer : Result FinishedScript StoppedScript) × (left : PlainBook) × (workspace : Workspace) × RunsScript (book_machine plain) l.before l.workspace l.script answer left workspace

-- The check of the chart answers so, and these are its rows.
pub record Reads (c : ChartLine) : Type 0 where
  pub answer : checked c.bytes ≡ c.answer
  pub rows : chart_rows c.bytes ≡ c.rows

-- Whatever bytes are lent to a reduction, all that it can leave to the jobs is these; and there is something that it can leave.
pub record Marks (r : ReductionLine) : Type 0 where
  pub every : (before after : List ℕ) → Reduced r.rows before after → take (length r.rows) after ≡ r.bytes
  pub some : (before : List ℕ) → (after : List ℕ) × Reduced r.rows before after

-- A line of the table holds.
abbrev pub Holds : Line → Type 0
Holds (of_run a) = Tells a
Holds (of_call c) = Answers c
Holds (of_refusal c) = Refuses c
Holds (of_calls c) = AcceptsAll c
Holds (of_script l) = EndsSo l
Holds (of_chart c) = Reads c
Holds (of_reduction r) = Marks r
Holds (of_limit l) = l.limit ≡ l.number

-- Every line of every part does.
abbrev pub SmallBooksHold : Type 0
SmallBooksHold = AllByRecursion (AllByRecursion Holds) table
