use Rattle.std.proofs.Common.{ap, ◌∙◌, arith}
use Rattle.rows.specs.StoredRows.{waiting_of, granted_by}
use Rattle.store.specs.declared.fault.BookFault.TheVariants.{NoSuchWait}
use Rattle.store.proofs.AnswerLemmas.{row_there, no_jobs, is_stuck, no_wait, grant_call_step, granted_fits}
use Rattle.store.proofs.store.Store.grant.Goals as goal

pub returns-then-granter-jobs : goal.returns-then-granter-jobs
returns-then-granter-jobs c =
    no_jobs c.args.self.now c.jobs-jobs.result c.jobs-jobs.ensures.value c.args.granter c.args.waiter c.then-granter-jobs.either

pub returns-then-need-gt0 : goal.returns-then-need-gt0
returns-then-need-gt0 c =
    let needs = c.need.ensures in
    is_stuck c.args.self.now c.jobs-jobs.result c.jobs-jobs.ensures.value c.args.granter c.args.waiter c.if-granter-jobs.false c.if-waiter-jobs.false (omega arith)

pub returns-in_err-row : goal.returns-in_err-row
returns-in_err-row c =
    let needs = c.need.ensures in
    let granted = c.granted.ensures ∙ ap (granted_by c.args.granter) c.row.ensures in
    no_wait c.args.self.now c.jobs-jobs.result c.jobs-jobs.ensures.value c.args.granter c.args.waiter c.if-granter-jobs.false c.if-waiter-jobs.false (omega arith) c.granted.result c.in_err-row.field-0.0 c.from_residual.result granted c.in_err-row.ensures.value c.from_residual.ensures.1

pub write-requires-clause-lawful : goal.write-requires-clause-lawful
write-requires-clause-lawful c =
    let granted = row_there c.granted.result c.in_ok-row.row NoSuchWait c.in_ok-row.ensures.value ∙ c.granted.ensures ∙ ap (granted_by c.args.granter) c.row.ensures in
    granted_fits c.args.self.now c.jobs-jobs.result c.jobs-jobs.ensures.value c.args.granter c.args.waiter c.jobs-jobs.ensures.lawful c.if-waiter-jobs.false (waiting_of c.in_ok-row.row) granted

pub returns : goal.returns
returns c =
    let needs = c.need.ensures in
    let granted = row_there c.granted.result c.in_ok-row.row NoSuchWait c.in_ok-row.ensures.value ∙ c.granted.ensures ∙ ap (granted_by c.args.granter) c.row.ensures in
    grant_call_step c.args.self.now c.jobs-jobs.result c.jobs-jobs.ensures.value c.args.granter c.args.waiter c.if-granter-jobs.false c.if-waiter-jobs.false (omega arith) (waiting_of c.in_ok-row.row) _ c.write.new.self granted c.write.ensures.value c.write.ensures.after
