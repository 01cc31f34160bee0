-- The kinds of line that the table of small books has.
use Rattle.std.specs.Prelude.{ℕ, Bool, List, Ok, Err, Result}
use Rattle.rows.specs.Waiting.{Waiting}
use Rattle.chart.specs.Faults.{Refusal}
use Rattle.book.specs.Calls.{Answer, Call}
use Rattle.book.specs.Plain.{Edit, PlainBook}
use Rattle.book.specs.Workspace.{Workspace}
use Rattle.book.specs.ScriptFaults.{LayeredRefusal, refusal_of}
use Rattle.book.specs.FinishedScript.{FinishedScript}
use Rattle.book.specs.StoppedScript.{StoppedScript}

-- A run of the exchange from an initiator: whether it ends up free, and after how many deliveries.
pub record RunLine : Type 0 where
  pub rows : List Waiting
  pub initiator : ℕ
  pub free : Bool
  pub deliveries : ℕ

-- A call on a book: its answer, and the rows after it.
pub record CallLine : Type 0 where
  pub before : PlainBook
  pub call : Call Edit
  pub answer : Answer
  pub rows : List Waiting

-- A call that is refused, with its answer.
pub record RefusalLine : Type 0 where
  pub before : PlainBook
  pub call : Call Edit
  pub answer : Answer

-- Calls on a book, one after the other, which are all accepted: the rows after the last.
pub record CallsLine : Type 0 where
  pub before : PlainBook
  pub calls : List (Call Edit)
  pub rows : List Waiting

-- How a script ends. Without a fault: how many commands it carried out, how many groups were cancelled at its end, and how many bytes it
-- wrote. By a fault: the refusal, at which byte and which command it came, and how many bytes were written before.
pub data ScriptEnd : Type 0 where
  finished : (commands cancelled written : ℕ) → ScriptEnd
  faulted : LayeredRefusal → (offset index written : ℕ) → ScriptEnd

-- The end that the answer of a script tells.
abbrev pub end_of : Result FinishedScript StoppedScript → ScriptEnd
end_of (Ok f) = finished f.commands f.cancelled f.written
end_of (Err s) = faulted (refusal_of s.fault) s.offset s.index s.written

-- A script that is run on a book: how it ends, and the bytes that it writes.
pub record ScriptLine : Type 0 where
  pub before : PlainBook
  pub workspace : Workspace
  pub script : List ℕ
  pub end : ScriptEnd
  pub bytes : List ℕ

-- Bytes as a chart: what the check answers, and the rows.
pub record ChartLine : Type 0 where
  pub bytes : List ℕ
  pub answer : Result ℕ Refusal
  pub rows : List Waiting

-- The bytes that a reduction writes for the jobs of a table.
pub record ReductionLine : Type 0 where
  pub rows : List Waiting
  pub bytes : List ℕ

-- A limit, and the number that it is.
pub record LimitLine : Type 0 where
  pub limit : ℕ
  pub number : ℕ

-- A line of the table.
pub data Line : Type 0 where
  of_run : RunLine → Line
  of_call : CallLine → Line
  of_refusal : RefusalLine → Line
  of_calls : CallsLine → Line
  of_script : ScriptLine → Line
  of_chart : ChartLine → Line
  of_reduction : ReductionLine → Line
  of_limit : LimitLine → Line

-- A line of each kind, in one word.
abbrev pub asked : List Waiting → (initiator : ℕ) → (free : Bool) → (deliveries : ℕ) → Line
asked rows initiator free deliveries = of_run (record { rows = rows; initiator = initiator; free = free; deliveries = deliveries })

abbrev pub called : PlainBook → Call Edit → Answer → List Waiting → Line
called before call answer rows = of_call (record { before = before; call = call; answer = answer; rows = rows })

abbrev pub refused : PlainBook → Call Edit → Answer → Line
refused before call answer = of_refusal (record { before = before; call = call; answer = answer })

abbrev pub called_in_turn : PlainBook → List (Call Edit) → List Waiting → Line
called_in_turn before calls rows = of_calls (record { before = before; calls = calls; rows = rows })

abbrev pub run_on : PlainBook → Workspace → (script : List ℕ) → ScriptEnd → (bytes : List ℕ) → Line
run_on before workspace script end bytes = of_script (record { before = before; workspace = workspace; script = script; end = end; bytes = bytes })

abbrev pub charted : (bytes : List ℕ) → Result ℕ Refusal → List Waiting → Line
charted bytes answer rows = of_chart (record { bytes = bytes; answer = answer; rows = rows })

abbrev pub reduced_to : List Waiting → (bytes : List ℕ) → Line
reduced_to rows bytes = of_reduction (record { rows = rows; bytes = bytes })

abbrev pub limited : (limit number : ℕ) → Line
limited limit number = of_limit (record { limit = limit; number = number })
