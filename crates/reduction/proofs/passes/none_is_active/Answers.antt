-- From job to job.
use Rattle.std.proofs.Common.{arith}
use Rattle.reduction.proofs.Steps.{one_more_waits}
use Rattle.reduction.proofs.passes.none_is_active.Goals as goal

pub loop-job-init : goal.loop-job-init
loop-job-init g c v l = absurd (omega (arith, l))

pub loop-job-preserved : goal.loop-job-preserved
loop-job-preserved g c = one_more_waits (g.T.Table.rows c.args.table.now) c.loop-job.job c.need.result c.need.ensures (omega (arith, c.if-need-eq0.false)) c.loop-job.invariant

pub returns : goal.returns
returns g c e v l = c.loop-job.invariant v (omega (arith, l, c.loop-job-test.false, c.jobs-job-end.ensures.value))
