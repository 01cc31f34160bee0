-- The first jobs' bytes are written, and those behind them are as they were.
use Rattle.std.proofs.Common.{◌≡◌, ◌*◌, take, drop}
use Rattle.chart.specs.Writing.{bytes_of_rows}
use Rattle.chart.proofs.writer.write_chart.Given as goal

abbrev pub invariant-loop-job : goal.invariant-loop-job
invariant-loop-job g l = record {
  written : take (18 * l.job) l.bytes ≡ bytes_of_rows (take l.job (g.T.Table.rows l.table));
  rest : drop (18 * l.job) l.bytes ≡ drop (18 * l.job) l.initial.bytes;
}
