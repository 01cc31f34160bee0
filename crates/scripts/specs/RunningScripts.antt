-- What the steps of a running script ask for and promise.
use Rattle.std.specs.Prelude.{◌≡◌, ℕ, ◌≤◌, List, length, MatchResult, Result}
use Rattle.carriers.specs.Carriers.{Carried}
use Rattle.exchange.specs.declared.record.RunRecord.{RunRecord}
use Rattle.scripts.specs.Commands.{Command}
use Rattle.scripts.specs.Scripts.{Progress, CarriesOut, Stops}
use Rattle.histories.specs.Machines.{book_machine}
use Rattle.scripts.specs.declared.fault.ScriptFault.{ScriptFault}
use Rattle.scripts.specs.declared.tally.Tally.{Tally}
use Rattle.scripts.specs.Workspace.{workspace}
use Rattle.store.specs.Plain.{plain, PlainBook}

-- How far a script on a book has come.
abbrev pub progress_of : PlainBook → List RunRecord → Carried → (bytes : List ℕ) → Tally → Progress PlainBook
progress_of s records carrier bytes t = record { current = s; workspace = workspace records carrier bytes; written = t.written; groups = t.groups }

-- A command is carried out, or a fault stops it and nothing changes.
abbrev pub CarriedOut : Command → (before after : Progress PlainBook) → Result (Unit {0}) ScriptFault → Type 0
CarriedOut c before after r = MatchResult r (λ _. CarriesOut (book_machine plain) before c after) (λ fault. Stops (book_machine plain) before c fault × (after ≡ before))

-- The script has no more groups open than the book, and has written no more bytes than there are.
pub record Within (s : PlainBook) (bytes : List ℕ) (t : Tally) : Type 0 where
  pub groups : t.groups ≤ length s.state.groups
  pub written : t.written ≤ length bytes
