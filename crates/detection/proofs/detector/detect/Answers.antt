-- The indexed table has the rows of the table.
use Rattle.std.proofs.Common.{List, take, subst, ◌∙◌, arith}
use Rattle.std.proofs.lemmas.List.{length-take-le}
use Rattle.rows.specs.Waiting.{Waiting}
use Rattle.detection.specs.Detected.{IsFinishedRun}
use Rattle.detection.proofs.Checks.{no_check_stops, finished_with_records_behind}
use Rattle.detection.proofs.detector.detect.Goals as goal

pub returns-clause-detects : goal.returns-clause-detects
returns-clause-detects g c =
    let rows = g.T.Table.rows c.args.table.now in
    let was = c.args.records.now in
    let before = g.C.Carrier.carried c.args.carrier.now in
    let jobs = c.jobs-jobs.result in
    let same = c.new-indexed.ensures.rows in
    let waits = rw same at c.wait_count.ensures.value in
    let long = length-take-le jobs was (omega (arith, c.if-records-jobs.false)) in
    let finished = subst (λ (rs : List Waiting). IsFinishedRun rs c.args.initiator (take jobs was) c.run.new.records before (g.C.Carrier.carried c.run.new.carrier) c.run.result) same c.run.ensures in
    record {
      stopped = no_check_stops rows c.args.initiator _ before (omega (arith, c.jobs-jobs.ensures.value)) (omega (arith, c.jobs-jobs.ensures.value)) (omega (arith, c.waiting.ensures.value)) (omega (arith, waits, c.capacity.ensures));
      left = finished_with_records_behind rows c.args.initiator was c.run.new.records before _ c.run.result jobs (omega (arith, c.jobs-jobs.ensures.value)) c.jobs-jobs.ensures.value (c.run.auto.records ∙ long) finished;
    }
