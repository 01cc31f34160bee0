-- The waits of the rows so far are marked and counted.
use Rattle.std.proofs.Common.{◌≡◌, take}
use Rattle.tables.specs.Waits.{waits}
use Rattle.tables.proofs.BitMatrixLemmas.{MarkedBelow}
use Rattle.tables.proofs.indexed.mark_waits.Given as goal

abbrev pub invariant-loop-job : goal.invariant-loop-job
invariant-loop-job g l =
    (l.waits ≡ waits (take l.job (g.T.Table.rows l.table))) × MarkedBelow (g.T.Table.rows l.table) l.words l.job
