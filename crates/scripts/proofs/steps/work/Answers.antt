use Rattle.std.proofs.Common.{◌∙◌, arith}
use Rattle.scripts.proofs.Reading.{underway_next, underway_fault, underway_over}
use Rattle.scripts.proofs.steps.work.Goals as goal

pub returns-in_err-step-clause-reads : goal.returns-in_err-step-clause-reads
returns-in_err-step-clause-reads g c =
    let e = c.in_err-step.ensures in
    underway_fault c.loop-position.invariant.3 c.step.new.place c.from_residual.result _ c.from_residual.ensures.1 e.steps e.place

pub loop-position-preserved : goal.loop-position-preserved
loop-position-preserved g c =
    let e = c.in_ok-step.ensures in
    (e.within, e.mark ∙ c.loop-position.invariant.1, omega arith, underway_next c.loop-position.invariant.3 c.step.new.place e.steps e.place)

pub returns-clause-reads : goal.returns-clause-reads
returns-clause-reads g c = underway_over c.loop-position.invariant.3 c.loop-position-test.false
