-- The item of the targets is the target at the place.
use Rattle.std.proofs.Common.{ℕ, List, ap, ◌∙◌}
use Rattle.rows.specs.Places.{target_at}
use Rattle.rows.proofs.Reading.{item_is_target}
use Rattle.chart.proofs.chart.reads.ChartTable.target.Goals as goal

pub returns : goal.returns
returns c =
    c.copied.ensures
    ∙ (item_is_target c.targets_of.result.now c.args.place c.get.result c.get.ensures.lookup
    ∙ ap (λ (ts : List ℕ). target_at ts c.args.place) c.targets_of.ensures)
