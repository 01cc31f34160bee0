-- What comes of a script that the program runs.
use Rattle.std.specs.Prelude.{ℕ, ◌*◌, List, replicate, Result}
use Rattle.wait_book.specs.CountedCarriers.{new_carrier}
use Rattle.wait_book.specs.Records.{blank}
use Rattle.wait_book.specs.RunRecord.{RunRecord}
use Rattle.wait_book.specs.Carriers.{Carried}
use Rattle.wait_book.specs.History.{History, begun}
use Rattle.wait_book.specs.Plain.{Edit, plain, Fixed}
use Rattle.wait_book.specs.Rules.{Parameters}
use Rattle.wait_book.specs.Scripts.{RunsScript}
use Rattle.wait_book.specs.Workspace.{workspace}
use Rattle.wait_book.specs.Machines.{history_machine}
use Rattle.wait_book.specs.StoppedScript.{StoppedScript}
use Rattle.wait_book.specs.FinishedScript.{FinishedScript}
use Rattle.wait_book.specs.TableConstants.{WAITS_MAX, JOBS_MAX}
use Rattle.wait_book.specs.GroupConstants.{TRAIL_MAX}
use Rattle.wait_book.specs.ExchangeLimits.{capacity_per_wait}
use Rattle.wait_book.specs.Creation.{new_parameters}

-- How many jobs the program's book has.
abbrev pub program_jobs : ℕ
program_jobs = JOBS_MAX

-- How many undo records its trail has.
abbrev pub program_trail : ℕ
program_trail = TRAIL_MAX

-- How many messages its carrier has room for.
abbrev pub program_queue : ℕ
program_queue = capacity_per_wait * WAITS_MAX

-- A new book. Any mark would do, since a script hands out no ticket.
abbrev pub program_parameters : Parameters Fixed
program_parameters = new_parameters program_jobs 7 program_trail

-- The answer, and the answer bytes, are those that the rules give a script on the history of a new book, with a blank record for each
-- job, and an empty carrier. That this is a queue is not told.
pub record ComesOut (script bytes : List ℕ) (answer : Result FinishedScript StoppedScript) (bytes' : List ℕ) : Type 0 where
  pub history : History Edit
  pub records : List RunRecord
  pub carrier : Carried
  pub scripted : RunsScript (history_machine plain program_parameters) begun (workspace (replicate program_jobs blank) (new_carrier program_queue) bytes) script answer history (workspace records carrier bytes')
