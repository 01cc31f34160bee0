-- No job waits for one beyond the last.
use Rattle.std.proofs.Common.{sym, ◌∙◌}
use Rattle.std.proofs.lemmas.Bool.{le-ltb}
use Rattle.store.proofs.RowViews.{none_waits_beyond}
use Rattle.store.proofs.store.questions.StoreTable.waits_for.Goals as goal

pub returns-else-job-self : goal.returns-else-job-self
returns-else-job-self c =
    let b = c.self.inside in
    rw (← c.self.view_is) (le-ltb c.args.job b.jobs c.if-job-self.false ∙ sym (none_waits_beyond b.jobs b.groups c.self.invariant c.args.waiter c.args.job c.if-job-self.false))
