-- Where no check of a detection fails: a run on the records of the jobs is a run on all, those behind being as before.
use Rattle.std.proofs.Common.{◌≡◌, ℕ, ◌*◌, ◌<◌, ◌≤◌, List, [], ◌++◌, length, take, drop, None, sym, ap, ◌∙◌, subst, arith}
use Rattle.std.proofs.lemmas.List.{take-append-le, get_or_append_left}
use Rattle.std.proofs.lemmas.Slice.{drop-append-drop}
use Rattle.std.proofs.lemmas.Bool.Decides.{nat_tests}
use Rattle.carriers.specs.Carriers.{Carried}
use Rattle.rows.specs.Waiting.{Waiting}
use Rattle.tables.specs.Waits.{waits}
use Rattle.exchange.specs.Records.{blank}
use Rattle.exchange.specs.Runs.{Exchange}
use Rattle.exchange.specs.declared.record.RunRecord.{RunRecord}
use Rattle.detection.specs.Detected.{stop, verdict_of, IsFinishedRun}
use Rattle.detection.specs.declared.verdict.Detection.{Detection}
use Rattle.detection.proofs.RunInvariant.{state}

pub no_check_stops : (rows : List Waiting) (initiator records : ℕ) (carrier : Carried) → initiator < length rows → length rows ≤ records
    → length carrier.waiting ≡ 0 → 2 * waits rows ≤ carrier.capacity → None ≡ stop rows initiator records carrier
no_check_stops rows initiator records carrier job enough empty wide = grind (arith, nat_tests)

pub finished_with_records_behind : (rows : List Waiting) (initiator : ℕ) (was left : List RunRecord) (before after : Carried) (d : Detection) (jobs : ℕ)
    → initiator < length rows → jobs ≡ length rows → length left ≡ jobs
    → IsFinishedRun rows initiator (take jobs was) left before after d → IsFinishedRun rows initiator was (left ++ drop jobs was) before after d
finished_with_records_behind rows initiator was left before after d jobs job all long f = record {
  order = f.order;
  run = subst (λ (rs : List RunRecord). Exchange rows initiator f.order (state rs [])) (sym (take-append-le (length rows) left (drop jobs was) (omega arith))) f.run;
  count = f.count;
  few = f.few;
  narrow = f.narrow;
  rest = drop-append-drop jobs was left (length rows) (omega arith) long;
  waiting = f.waiting;
  capacity = f.capacity;
  handed = f.handed;
  of_record = f.of_record ∙ ap verdict_of (sym (get_or_append_left left (drop jobs was) blank initiator (omega arith)));
  stuck = f.stuck;
  free = f.free;
}
