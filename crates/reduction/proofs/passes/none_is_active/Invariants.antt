use Rattle.reduction.specs.Work.{AllWait}
use Rattle.reduction.proofs.passes.none_is_active.Given as goal

abbrev pub invariant-loop-job : goal.invariant-loop-job
invariant-loop-job g l = AllWait (g.T.Table.rows l.fn.table) l.job
