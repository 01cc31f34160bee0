-- From row to row.
use Rattle.std.proofs.Common.{◌∙◌, arith}
use Rattle.tables.specs.Tables.{IsTable}
use Rattle.tables.proofs.Sizes.{waits_of_all_rows, targets_are_few, first_rows_have_few_waits, waits_are_few}
use Rattle.tables.proofs.indexed.mark_waits.Given as given
use Rattle.tables.proofs.indexed.mark_waits.Goals as goal
use Rattle.tables.proofs.indexed.mark_waits.Goals.{After-jobs-job-end}

is_table : (g : given.Over) (c : After-jobs-job-end g) → IsTable (g.T.Table.rows c.args.table.now)
is_table g c = record { few = omega (arith, c.jobs-job-end.ensures.value, c.jobs-job-end.ensures.bound); lawful = c.jobs-job-end.ensures.lawful }

pub mark_row-waits-requires-clause-few : goal.mark_row-waits-requires-clause-few
mark_row-waits-requires-clause-few g c =
    let table = is_table g (goal.at.mark_row-waits-requires-clause-few g c).After-jobs-job-end in
    omega (arith, targets_are_few (g.T.Table.rows c.args.table.now) table c.loop-job.job)

pub overflow_add-waits : goal.overflow_add-waits
overflow_add-waits g c =
    let rows = g.T.Table.rows c.args.table.now in
    let table = is_table g (goal.at.overflow_add-waits g c).After-jobs-job-end in
    omega (arith, targets_are_few rows table c.loop-job.job, first_rows_have_few_waits rows table c.loop-job.job, c.jobs-job-end.ensures.bound)

pub returns-clause-bound : goal.returns-clause-bound
returns-clause-bound g c =
    let rows = g.T.Table.rows c.args.table.now in
    let value = c.loop-job.invariant.0 ∙ waits_of_all_rows rows c.loop-job.job (omega (arith, c.jobs-job-end.ensures.value)) in
    omega (arith, value, waits_are_few rows (is_table g (goal.at.returns-clause-bound g c).After-jobs-job-end))
