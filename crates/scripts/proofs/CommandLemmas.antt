-- The arms of a script's command.
use Rattle.std.proofs.Common.{◌≡◌, ℕ, ◌+◌, ◌-◌, cond, List, drop, drop-drop, IsErrAnd, Result, Ok, Err, sym, ap, ◌∙◌, arith}
use Rattle.carriers.specs.Carriers.{Carried}
use Rattle.exchange.specs.declared.record.RunRecord.{RunRecord}
use Rattle.store.specs.declared.fault.BookFault.{BookFault}
use Rattle.scripts.specs.declared.fault.ScriptFault.{ScriptFault}
use Rattle.scripts.specs.declared.tally.Tally.{Tally}
use Rattle.histories.specs.Calls.{done, accepted, Call, edits}
use Rattle.store.specs.Plain.{refusal, Edit, plain, PlainBook}
use Rattle.histories.specs.Rules.{says, after, changed}
use Rattle.histories.specs.CallSteps.{CallStep}
use Rattle.scripts.specs.Commands.{Command, makes}
use Rattle.scripts.specs.Scripts.{Progress, CarriesOut, Stops, edited}
use Rattle.histories.specs.Machines.{book_machine}
use Rattle.scripts.specs.RunningScripts.{progress_of, CarriedOut}

-- a refused call leaves the book as it was
pub refused_leaves : (s s' : PlainBook) (c : Call Edit) (fault : BookFault) → refusal fault ≡ says plain s c → s' ≡ after plain s c → s' ≡ s
refused_leaves s s' c fault e f = f ∙ ap (λ a. cond (accepted a) (changed plain s c) s) (sym e)

-- a fault that comes out of a call stops the command
pub fault_stops : (c : Command) (p q : Progress PlainBook) (r : Result (Unit {0}) ScriptFault) (fault : ScriptFault)
    → IsErrAnd r (λ y. y ≡ fault) → Stops (book_machine plain) p c fault → q ≡ p → CarriedOut c p q r
fault_stops c p q (Ok u) fault h refused same = absurd h
fault_stops c p q (Err f) fault h refused same = rw h (refused, same)

-- a call of the book that is refused, and one that is not
module _ (s s' : PlainBook) (records : List RunRecord) (carrier : Carried) (bytes : List ℕ) (t : Tally) where
  pub refused_far : (c : Call Edit) (fault : BookFault) → CallStep plain s c (refusal fault) s' → progress_of s' records carrier bytes t ≡ progress_of s records carrier bytes t
  refused_far c fault k = ap (λ x. progress_of x records carrier bytes t) (refused_leaves s s' c fault k.value k.after)

  pub edit_carried : (e : Edit) → CallStep plain s (edits e) done s' → CarriesOut (book_machine plain) (progress_of s records carrier bytes t) (makes e) (progress_of s' records carrier bytes t)
  edit_carried e k = rw k.after (edited (sym k.value))

-- what stands behind four bytes that are written
pub bytes_behind : (w : ℕ) (bytes : List ℕ) → drop (w + 4 - w) (drop w bytes) ≡ drop (w + 4) bytes
bytes_behind w bytes =
    let four : w + 4 - w ≡ 4 = omega arith in
    ap (λ k. drop k (drop w bytes)) four ∙ drop-drop 4 w bytes
