-- All waiters are left at the start.
use Rattle.tables.proofs.WaiterLemmas.{all_waiters_are_left}
use Rattle.tables.proofs.table.TwoWayTable.waiters.Goals as goal

pub returns : goal.returns
returns g c = all_waiters_are_left (g.Self.Table.rows c.args.self.now) c.args.job
