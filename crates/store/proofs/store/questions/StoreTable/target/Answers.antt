use Rattle.std.proofs.Common.{ap, ◌∙◌}
use Rattle.rows.specs.Waiting.{Waiting}
use Rattle.rows.specs.Places.{target_at}
use Rattle.rows.proofs.Reading.{item_is_target}
use Rattle.store.proofs.store.questions.StoreTable.target.Goals as goal

pub returns : goal.returns
returns c =
    c.copied.ensures
    ∙ item_is_target c.targets_of.result.now c.args.place c.get.result c.get.ensures.lookup
    ∙ ap (λ ts. target_at ts c.args.place) (c.targets_of.ensures ∙ ap (λ (w : Waiting). w.targets) c.stored.ensures.value)
