-- What the program does with its input and its output.
use Rattle.std.specs.Prelude.{◌≡◌, ℕ, ◌+◌, ◌*◌, ◌/◌, Bool, true, List, take, replicate, Option, Result, IfSome}
use Rattle.std.specs.Io.KnownBytes.{Appends}
use Rattle.wait_book.specs.AnswerConstants.{DETECTION_BYTES}
use Rattle.wait_book.specs.ScriptConstants.{SCRIPT_MAX}
use Rattle.wait_book.specs.ScriptRuns.{script_written}
use Rattle.wait_book.specs.StoppedScript.{StoppedScript}
use Rattle.wait_book.specs.FinishedScript.{FinishedScript}
use Rattle.waits.specs.Outcome.{ComesOut}

-- How many bytes are read: one more than a script can have, so that one that is too long is seen to be so.
abbrev pub input_max : ℕ
input_max = SCRIPT_MAX + 1

-- How many answer bytes there are: enough for the longest script, of which every two bytes can be a detection.
abbrev pub program_answers : ℕ
program_answers = SCRIPT_MAX / 2 * DETECTION_BYTES

-- Of an input whose bytes are known, the first are the script. It comes out by the rules; and where nothing went wrong with the writing,
-- an output whose bytes are known has grown by exactly those that the script has written, after a fault too.
pub record Serves (input : Option (List ℕ)) (outcome : Result FinishedScript StoppedScript) (printed : Bool) (before after : Option (List ℕ)) : Type 0 where
  pub script : List ℕ
  pub reads : IfSome input (λ bytes. script ≡ take input_max bytes)
  pub bytes : List ℕ
  pub comes_out : ComesOut script (replicate program_answers 0) outcome bytes
  pub prints : printed ≡ true → Appends before after (take (script_written outcome) bytes)
