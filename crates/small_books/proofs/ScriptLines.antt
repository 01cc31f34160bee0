-- The scripts of the table.
use Rattle.std.proofs.Common.{◌≡◌, ℕ, ◌/◌, ◌%◌, false, List, [], ◌∷◌, drop, take, Some, None, Ok, Err, Result, refl, ap, ◌∙◌, arith}
use Rattle.rows.specs.Waiting.{Waiting}
use Rattle.detection.specs.Detected.{Detects}
use Rattle.detection.specs.declared.verdict.Detection.{Detection}
use Rattle.detection.specs.declared.verdict.Verdict.{Verdict}
use Rattle.detection.specs.declared.verdict.Verdict.TheVariants.{Stuck}
use Rattle.book.specs.Plain.{PlainBook, Edit, requests, grants, plain}
use Rattle.book.specs.Commands.{detecting}
use Rattle.book.specs.Calls.{edits}
use Rattle.book.specs.FinishedScript.{FinishedScript}
use Rattle.book.specs.Workspace.{Workspace}
use Rattle.book.specs.ScriptFault.TheVariants.{OfBook}
use Rattle.book.specs.BookFault.TheVariants.{NoSuchWait}
use Rattle.book.specs.ScriptFaults.{by_book, LayeredRefusal}
use Rattle.book.specs.ScriptRuns.{script_written}
use Rattle.book.specs.Scripts.{Progress, start, after_call, after_detection, edited, answered, not_edited, carried_out, refused, finishes, faults, steps, answer_bytes, verdict_byte, with_answer, RunsCommands}
use Rattle.book.specs.StoppedScript.{StoppedScript}
use Rattle.book.specs.Machines.{Machine, book_machine}
use Rattle.small_books.specs.Facts.{Tells}
use Rattle.small_books.specs.Lines.{RunLine, end_of, finished, faulted}
use Rattle.small_books.specs.Table.{program_book, program_workspace, script_of_two_waits, script_of_a_grant}
use Rattle.small_books.proofs.Detections.{Possible, can_be_made}
use Rattle.small_books.proofs.TableLines.{computed_is_expected, detection_tells}
use Rattle.small_books.proofs.Scripts.{detection_step, goes_on, goes_on_after, is_over, stops_there, answered_there}

abbrev S : Machine Waiting Edit PlainBook
S = book_machine plain

abbrev begun : Progress PlainBook
begun = start S program_book program_workspace

-- The grant is refused, so nothing is done.
pub grant_is_refused : (answer : Result FinishedScript StoppedScript) (left : PlainBook) (workspace : Workspace) → RunsCommands S program_book program_workspace script_of_a_grant answer left workspace
    → (end_of answer ≡ faulted (by_book 7 None) 0 0 0) × (take (script_written answer) workspace.bytes ≡ [])
grant_is_refused answer left workspace w =
    let t = stops_there S script_of_a_grant (grants 1 0) 3 7 None refl refl w.reads in
    let a = answered_there S w.says t.1 t.3 t.4 in
    (ap end_of a ∙ ap (λ (r : LayeredRefusal). faulted r 0 0 0) t.2, ap (λ (n : ℕ). take n workspace.bytes) (ap script_written a))

pub grant_can_be_refused : RunsCommands S program_book program_workspace script_of_a_grant (Err (record { fault = OfBook NoSuchWait; offset = 0; index = 0; written = 0 })) program_book program_workspace
grant_can_be_refused = record { fault = Some (OfBook NoSuchWait); there = _; last = begun; reads = faults (refused refl (not_edited refl refl)); says = refl; leaves = refl; hands_back = refl }

-- After the two requests.
abbrev waiting : Progress PlainBook
waiting = after_call S (after_call S begun (edits (requests 0 1 (1 ∷ []))) 0) (edits (requests 1 1 (0 ∷ []))) 0

abbrev rows : List Waiting
rows = waiting.current.state.rows

-- A run from 0 is then stuck after 4 deliveries; one round is enough to see it.
abbrev stuck_run : RunLine
stuck_run = record { rows = rows; initiator = 0; free = false; deliveries = 4 }

stuck_run_is_told : Tells stuck_run
stuck_run_is_told = computed_is_expected 1 stuck_run refl

-- What the detection then writes.
written_bytes : (d : Detection) → d.verdict ≡ Stuck → d.deliveries ≡ 4 → take 4 (with_answer program_workspace.bytes 0 (answer_bytes 0 d)) ≡ 0 ∷ 1 ∷ 0 ∷ 4 ∷ []
written_bytes d v n = ap (λ (v : Verdict). 0 ∷ verdict_byte v ∷ d.deliveries / 256 ∷ d.deliveries % 256 ∷ []) v ∙ ap (λ (n : ℕ). 0 ∷ 1 ∷ n / 256 ∷ n % 256 ∷ []) n

pub two_waits_are_told : (answer : Result FinishedScript StoppedScript) (left : PlainBook) (workspace : Workspace) → RunsCommands S program_book program_workspace script_of_two_waits answer left workspace
    → (end_of answer ≡ finished 3 0 4) × (take (script_written answer) workspace.bytes ≡ 0 ∷ 1 ∷ 0 ∷ 4 ∷ [])
two_waits_are_told answer left workspace w =
    let one = goes_on_after S script_of_two_waits (requests 0 1 (1 ∷ [])) 5 refl refl w.reads in
    let two = goes_on_after S (drop 5 script_of_two_waits) (requests 1 1 (0 ∷ [])) 5 refl refl one in
    let three = goes_on S (drop 10 script_of_two_waits) (detecting 0) 2 refl (detection_step S (drop 10 script_of_two_waits) waiting 0 2 refl (omega arith) refl) two in
    let d = three.1 in
    let t = detection_tells stuck_run stuck_run_is_told (omega arith) d.made.left in
    let over = is_over S three.2 in
    let a = answered_there S w.says over.0 over.1 (over.2 ∙ d.becomes) in
    let bytes = ap (λ (l : Workspace). l.bytes) (w.hands_back ∙ ap (λ (p : Progress PlainBook). p.workspace) (over.2 ∙ d.becomes)) in
    (ap end_of a, ap (λ (n : ℕ). take n workspace.bytes) (ap script_written a) ∙ ap (take 4) bytes ∙ written_bytes d.told t.1 t.0)

-- Such a detection can be made.
possible : Possible rows 0 program_workspace.records program_workspace.carrier
possible = can_be_made rows 0 program_workspace.records program_workspace.carrier refl (omega arith) refl (omega arith)

detects : Detects rows 0 program_workspace.records possible.records program_workspace.carrier possible.carrier (Ok possible.told)
detects = record { stopped = refl; left = possible.made }

abbrev told : Progress PlainBook
told = after_detection S waiting 0 possible.told possible.records possible.carrier

two_waits_carried : RunsCommands S program_book program_workspace script_of_two_waits (Ok (record { commands = 3; cancelled = 0; written = 4 })) waiting.current told.workspace
two_waits_carried = record {
  fault = None;
  there = record { offset = 12; index = 3 };
  last = told;
  reads = steps (carried_out refl (edited refl)) (steps (carried_out refl (edited refl)) (steps (carried_out refl (answered (omega arith) detects)) finishes));
  says = refl;
  leaves = refl;
  hands_back = refl;
}

pub two_waits_can_be_told : (answer : Result FinishedScript StoppedScript) × (left : PlainBook) × (workspace : Workspace) × RunsCommands S program_book program_workspace script_of_two_waits answer left workspace
two_waits_can_be_told = (_, _, _, two_waits_carried)
