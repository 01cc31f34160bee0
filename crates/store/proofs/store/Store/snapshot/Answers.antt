-- The rows are those that obey the law.
use Rattle.std.proofs.Common.{ap, ◌∙◌}
use Rattle.rows.specs.Obeys.{rows_obey}
use Rattle.rows.specs.StoredRows.{plain_fits}
use Rattle.store.proofs.store.Store.snapshot.Goals as goal

pub invariant_of-result : goal.invariant_of-result
invariant_of-result c =
    let l = c.self.invariant in
    record { few = l.few; lawful = ap (rows_obey (plain_fits c.self.inside.jobs) 0) c.rows.ensures ∙ l.obeys.rows }
