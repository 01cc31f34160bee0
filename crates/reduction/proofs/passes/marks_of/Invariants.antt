use Rattle.std.proofs.Common.{◌≡◌}
use Rattle.reduction.specs.Work.{IsSaturated, steps_left}
use Rattle.reduction.proofs.passes.marks_of.Given as goal

abbrev pub invariant-loop-marking : goal.invariant-loop-marking
invariant-loop-marking g l = record {
  rows : l.marking.rows ≡ g.T.Table.rows l.fn.table.table.now;
  saturated : IsSaturated l.marking;
}

abbrev pub decreases-loop-marking : goal.decreases-loop-marking
decreases-loop-marking g l = steps_left l.marking
