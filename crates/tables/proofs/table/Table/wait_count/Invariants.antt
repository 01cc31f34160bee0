-- The waits of the rows so far were counted.
use Rattle.std.proofs.Common.{◌≡◌, take}
use Rattle.tables.specs.Waits.{waits}
use Rattle.tables.proofs.table.Table.wait_count.Given as goal

abbrev pub invariant-loop-job : goal.invariant-loop-job
invariant-loop-job g l = l.waits ≡ waits (take l.job (g.Self.Table.rows l.self))
