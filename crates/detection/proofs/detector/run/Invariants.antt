-- The records and the carrier are those of a run; each turn is one delivery nearer to the last that there can be.
use Rattle.std.proofs.Common.{◌-◌, ◌*◌}
use Rattle.tables.specs.Waits.{waits}
use Rattle.detection.proofs.RunInvariant.{Going, growth}
use Rattle.detection.proofs.detector.run.Given as goal

abbrev pub invariant-loop-message : goal.invariant-loop-message
invariant-loop-message g l =
    Going (g.T.Table.rows l.table.table.now) l.initiator (g.C.Carrier.carried l.initial.carrier).capacity l.before
    l.records (g.C.Carrier.carried l.carrier)

abbrev pub decreases-loop-message : goal.decreases-loop-message
decreases-loop-message g l = 4 * waits (g.T.Table.rows l.table.table.now) - growth l.before (g.C.Carrier.carried l.carrier).handed
