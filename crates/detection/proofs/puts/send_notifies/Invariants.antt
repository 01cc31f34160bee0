-- NOTIFY was put on the waits for the targets that have come.
use Rattle.std.proofs.Common.{ℕ}
use Rattle.carriers.specs.declared.message.Kind.TheVariants.{Notify}
use Rattle.rows.specs.Waiting.{at}
use Rattle.tables.specs.Walks.{targets_left}
use Rattle.exchange.specs.Rules.{message, on}
use Rattle.detection.proofs.SendLemmas.{SentFront}
use Rattle.detection.proofs.puts.send_notifies.Given as goal

abbrev pub invariant-loop-target : goal.invariant-loop-target
invariant-loop-target g l =
    SentFront (λ (u : ℕ). message Notify (on l.job u)) (at (g.T.Table.rows l.table.table.now) l.job).targets
    (targets_left g.T.Table.rows l.target-iterator) l.count (g.C.Carrier.carried l.initial.carrier) (g.C.Carrier.carried l.carrier)
