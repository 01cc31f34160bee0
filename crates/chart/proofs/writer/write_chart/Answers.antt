-- Job by job.
use Rattle.std.proofs.Common.{◌≡◌, ◌*◌, ◌≤◌, length, take, ap, ◌∙◌, arith}
use Rattle.std.proofs.lemmas.List.{take_all}
use Rattle.rows.specs.Waiting.{at}
use Rattle.tables.specs.Tables.{IsTable}
use Rattle.tables.proofs.Sizes.{targets_are_few}
use Rattle.chart.specs.Writing.{bytes_of_rows}
use Rattle.chart.proofs.WritingLemmas.{next_row, rest_after, table_reads_back, length-bytes_of_row}
use Rattle.chart.proofs.writer.write_chart.Given as given
use Rattle.chart.proofs.writer.write_chart.Goals as goal
use Rattle.chart.proofs.writer.write_chart.Goals.{After-jobs-jobs}

is_table : (g : given.Over) (c : After-jobs-jobs g) → IsTable (g.T.Table.rows c.args.table.now)
is_table g c = record { few = omega (arith, c.jobs-jobs.ensures.value, c.jobs-jobs.ensures.bound); lawful = c.jobs-jobs.ensures.lawful }

pub row_in_bytes-requires : goal.row_in_bytes-requires
row_in_bytes-requires g c = targets_are_few (g.T.Table.rows c.args.table.now) (is_table g (goal.at.row_in_bytes-requires g c).After-jobs-jobs) c.loop-job.job

pub loop-job-preserved : goal.loop-job-preserved
loop-job-preserved g c =
    let rows = g.T.Table.rows c.args.table.now in
    let job = c.loop-job.job in
    let few = targets_are_few rows (is_table g (goal.at.loop-job-preserved g c).After-jobs-jobs) job in
    let written = c.copy_from_slice.ensures.after ∙ c.row_in_bytes.ensures in
    let room : 18 * job ≤ length c.loop-job.bytes = omega arith in
    record {
      written = next_row rows job _ c.loop-job.bytes c.copy_from_slice.new.self (omega (arith, c.jobs-jobs.ensures.value)) room written few c.loop-job.invariant.written;
      rest = rest_after job c.loop-job.bytes c.copy_from_slice.new.self c.args.bytes.now room (ap length written ∙ length-bytes_of_row (at rows job) few) c.loop-job.invariant.rest;
    }

pub returns-clause-reads_back : goal.returns-clause-reads_back
returns-clause-reads_back g c =
    let rows = g.T.Table.rows c.args.table.now in
    let n = c.jobs-jobs.result in
    let table = is_table g (goal.at.returns-clause-reads_back g c).After-jobs-jobs in
    let end : n * 18 ≡ 18 * c.loop-job.job = omega arith in
    let whole : take (n * 18) c.loop-job.bytes ≡ bytes_of_rows rows =
    ap (λ k. take k c.loop-job.bytes) end ∙ c.loop-job.invariant.written ∙ ap bytes_of_rows (take_all c.loop-job.job rows (omega (arith, c.jobs-jobs.ensures.value))) in
    rw whole (table_reads_back rows table)
