-- From row to row.
use Rattle.std.proofs.Common.{◌∙◌, arith}
use Rattle.tables.specs.Tables.{IsTable}
use Rattle.tables.proofs.Sizes.{waits_of_all_rows, targets_are_few, first_rows_have_few_waits, waits_are_few}
use Rattle.tables.proofs.table.Table.wait_count.Given as given
use Rattle.tables.proofs.table.Table.wait_count.Goals as goal
use Rattle.tables.proofs.table.Table.wait_count.Goals.{After-jobs-job-end}

is_table : (g : given.Over) (c : After-jobs-job-end g) → IsTable (g.Self.Table.rows c.args.self.now)
is_table g c = record { few = omega (arith, c.jobs-job-end.ensures.value, c.jobs-job-end.ensures.bound); lawful = c.jobs-job-end.ensures.lawful }

pub overflow_add-waits : goal.overflow_add-waits
overflow_add-waits g c =
    let rows = g.Self.Table.rows c.args.self.now in
    let table = is_table g (goal.at.overflow_add-waits g c).After-jobs-job-end in
    omega (arith, targets_are_few rows table c.loop-job.job, first_rows_have_few_waits rows table c.loop-job.job, c.jobs-job-end.ensures.bound)

pub returns : goal.returns
returns g c =
    let rows = g.Self.Table.rows c.args.self.now in
    let value = c.loop-job.invariant ∙ waits_of_all_rows rows c.loop-job.job (omega (arith, c.jobs-job-end.ensures.value)) in
    record { value = value; bound = omega (arith, value, waits_are_few rows (is_table g (goal.at.returns g c).After-jobs-job-end)) }
