-- What comes of a script on a new book.
use Rattle.std.proofs.Common.{◌≡◌, true, List, ℕ, replicate, Result, Ok, Err, is_ok, OnOk, subst}
use Rattle.wait_book.specs.History.{begun}
use Rattle.wait_book.specs.CountedCarriers.{new_carrier}
use Rattle.wait_book.specs.Carriers.{Carried}
use Rattle.wait_book.specs.Records.{blank}
use Rattle.wait_book.specs.RunRecord.{RunRecord}
use Rattle.wait_book.specs.Rules.{parameters}
use Rattle.wait_book.specs.CallSteps.{Represents}
use Rattle.wait_book.specs.ScriptRuns.{ScriptStep}
use Rattle.wait_book.specs.Workspace.{workspace}
use Rattle.wait_book.specs.Scripts.{RunsScript}
use Rattle.wait_book.specs.Machines.{history_machine}
use Rattle.wait_book.specs.StoppedScript.{StoppedScript}
use Rattle.wait_book.specs.FinishedScript.{FinishedScript}
use Rattle.waits.specs.Outcome.{ComesOut}
use Rattle.wait_book.specs.Plain.{plain, PlainBook}
use Rattle.wait_book.specs.Creation.{new_book}

pub comes_out : {s s' : PlainBook} {was records : List RunRecord} {before carrier : Carried} {script bytes bytes' : List ℕ} {a : Result FinishedScript StoppedScript}
    → s ≡ new_book 256 7 1024 → Represents plain s begun → was ≡ replicate 256 blank → before ≡ new_carrier 8192 → ScriptStep s (workspace was before bytes) script a s' (workspace records carrier bytes')
    → ComesOut script bytes a bytes'
comes_out {s} {s'} {was} {records} {before} {carrier} {script} {bytes} {bytes'} {a} new shows blanks empty k =
    let r = k.represents begun shows in
    record {
      history = r.0;
      records = records;
      carrier = carrier;
      scripted = rw (← blanks, ← empty) (subst (λ t. RunsScript (history_machine plain (parameters t)) begun (workspace was before bytes) script a r.0 (workspace records carrier bytes')) new r.1);
    }

-- what holds of a success
pub where_ok : {T E P : Type 0} (r : Result T E) → OnOk r P → is_ok r ≡ true → P
where_ok (Ok t) p ok = p
where_ok (Err e) p ok = absurd (cc ok)
