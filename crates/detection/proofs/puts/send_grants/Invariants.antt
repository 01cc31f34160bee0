-- GRANT was put on the waits of the waiters that have come.
use Rattle.std.proofs.Common.{ℕ}
use Rattle.carriers.specs.declared.message.Kind.TheVariants.{Grant}
use Rattle.tables.specs.Waits.{waiters}
use Rattle.tables.specs.Walks.{waiters_left}
use Rattle.exchange.specs.Rules.{message, on}
use Rattle.detection.proofs.SendLemmas.{SentFront}
use Rattle.detection.proofs.puts.send_grants.Given as goal

abbrev pub invariant-loop-waiter : goal.invariant-loop-waiter
invariant-loop-waiter g l =
    SentFront (λ (v : ℕ). message Grant (on v l.job)) (waiters (g.T.Table.rows l.table.table.now) l.job)
    (waiters_left g.T.Table.rows l.waiter-iterator) l.count (g.C.Carrier.carried l.initial.carrier) (g.C.Carrier.carried l.carrier)
