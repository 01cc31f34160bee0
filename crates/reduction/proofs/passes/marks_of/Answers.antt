use Rattle.std.proofs.Common.{sym, ap, ◌∙◌, subst}
use Rattle.reduction.specs.Work.{IsDecided, IsSaturated}
use Rattle.reduction.proofs.Steps.{all_decided}
use Rattle.reduction.proofs.passes.marks_of.Goals as goal

pub returns : goal.returns
returns g c =
    let none = rw c.loop-marking-test.false at c.take.ensures in
    let made = all_decided _ none.0 c.marking.invariant.0 (subst IsSaturated (sym c.marking.view_is) c.loop-marking.invariant.saturated) in
    subst (λ rows. IsDecided rows c.marking.inside.marks) (ap (λ m. m.rows) c.marking.view_is ∙ c.loop-marking.invariant.rows) made
