use Rattle.std.proofs.Common.{sym, arith}
use Rattle.rows.specs.StoredRows.{waiting_of}
use Rattle.rows.proofs.Laws.{request_fits}
use Rattle.store.proofs.AnswerLemmas.{no_job, is_blocked, no_row, request_call_step}
use Rattle.store.proofs.store.Store.request.Goals as goal

pub returns-then-job-jobs : goal.returns-then-job-jobs
returns-then-job-jobs c =
    no_job c.args.self.now c.jobs-jobs.result c.jobs-jobs.ensures.value c.args.job c.args.need c.args.targets.now c.if-job-jobs.true

pub returns-then-need-gt0 : goal.returns-then-need-gt0
returns-then-need-gt0 c =
    let needs = c.need.ensures in
    is_blocked c.args.self.now c.jobs-jobs.result c.jobs-jobs.ensures.value c.args.job c.args.need c.args.targets.now c.if-job-jobs.false (omega arith)

pub returns-in_err-row : goal.returns-in_err-row
returns-in_err-row c =
    let needs = c.need.ensures in
    no_row c.args.self.now c.jobs-jobs.result c.jobs-jobs.ensures.value c.args.job c.args.need c.args.targets.now c.if-job-jobs.false (omega arith) c.in_err-row.field-0.0 c.from_residual.result c.in_err-row.ensures c.from_residual.ensures.1

pub write-requires-clause-lawful : goal.write-requires-clause-lawful
write-requires-clause-lawful c =
    rw (← c.jobs-jobs.ensures.value) (request_fits c.jobs-jobs.result c.args.job c.args.need c.args.targets.now (waiting_of c.in_ok-row.row) (sym c.in_ok-row.ensures))

pub returns : goal.returns
returns c =
    let needs = c.need.ensures in
    request_call_step c.args.self.now c.jobs-jobs.result c.jobs-jobs.ensures.value c.args.job c.args.need c.args.targets.now c.if-job-jobs.false (omega arith) (waiting_of c.in_ok-row.row) _ c.write.new.self c.in_ok-row.ensures c.write.ensures.value c.write.ensures.after
