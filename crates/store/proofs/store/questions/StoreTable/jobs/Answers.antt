use Rattle.store.proofs.RowViews.{lawful_seen}
use Rattle.store.proofs.store.questions.StoreTable.jobs.Goals as goal

pub returns-clause-lawful : goal.returns-clause-lawful
returns-clause-lawful c = rw (← c.self.view_is) (lawful_seen c.self.inside.jobs c.self.inside.groups c.self.invariant)
