use Rattle.std.proofs.Common.{◌∙◌, arith}
use Rattle.scripts.proofs.Reading.{cancel_groups_next}
use Rattle.scripts.proofs.run.cancel_groups.Goals as goal

pub loop-preserved : goal.loop-preserved
loop-preserved c =
    let e = c.end_innermost.ensures in
    (omega arith, e.mark ∙ c.loop.invariant.1, cancel_groups_next c.loop.store c.end_innermost.new.self _ c.args.groups c.loop.counter c.loop-test.true c.loop.invariant.2 e.after)
