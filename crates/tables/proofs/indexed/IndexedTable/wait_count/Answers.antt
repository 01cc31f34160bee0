-- The waits were counted, and no table has more than it may.
use Rattle.std.proofs.Common.{arith}
use Rattle.tables.proofs.Sizes.{waits_are_few}
use Rattle.tables.proofs.indexed.IndexedTable.wait_count.Goals as goal

pub returns-clause-bound : goal.returns-clause-bound
returns-clause-bound g c =
    let indexed = c.args.self.now in
    omega (arith, indexed.counted, waits_are_few (g.T.Table.rows indexed.table.now) indexed.marked.table)
