use Rattle.std.proofs.Common.{◌≡◌}
use Rattle.reduction.proofs.Steps.{Started}
use Rattle.reduction.proofs.marking.Marking.begin.Given as goal

abbrev pub invariant-loop-job : goal.invariant-loop-job
invariant-loop-job g l = record {
  rows : l.marking.rows ≡ g.T.Table.rows l.table.table.now;
  started : Started l.marking l.job;
}
