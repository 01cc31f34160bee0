-- Right rows are lawful.
use Rattle.chart.proofs.Rows.{right_rows_are_lawful}
use Rattle.chart.proofs.chart.reads.ChartTable.jobs.Goals as goal

pub returns-clause-lawful : goal.returns-clause-lawful
returns-clause-lawful c = right_rows_are_lawful c.args.self.now.rows.now c.args.self.now.right
