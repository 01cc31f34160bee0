-- A row that is read is one of those that obey the law.
use Rattle.std.proofs.Common.{take, subst}
use Rattle.std.specs.Slice.{IsGetResult}
use Rattle.store.proofs.RowViews.{stored_sound}
use Rattle.store.proofs.store.Store.stored.Goals as goal

pub returns-clause-lawful : goal.returns-clause-lawful
returns-clause-lawful c =
    let b = c.self.inside in
    stored_sound b.jobs b.groups c.self.invariant c.args.job c.get.result (subst (λ rows. IsGetResult (take b.jobs rows) c.args.job c.args.job c.get.result) c.rows.ensures c.get.ensures.lookup)
