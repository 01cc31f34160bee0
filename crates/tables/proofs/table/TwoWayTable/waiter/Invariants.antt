-- After so many turns, the waiter is the one at that place.
use Rattle.std.proofs.Common.{◌≡◌, Some}
use Rattle.rows.specs.Places.{target_at}
use Rattle.tables.specs.Waits.{waiters}
use Rattle.tables.proofs.table.TwoWayTable.waiter.Given as goal

abbrev pub invariant-loop : goal.invariant-loop
invariant-loop g l = Some l.waiter ≡ target_at (waiters (g.Self.Table.rows l.self) l.job) l.counter
