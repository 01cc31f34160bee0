-- No job from the first number up to the one that is reached waits.
use Rattle.std.proofs.Common.{◌≡◌, ℕ, ◌-◌, ◌<◌, ◌≤◌, false}
use Rattle.rows.specs.Waiting.{at, among}
use Rattle.tables.proofs.indexed.IndexedTwoWayTable.next_waiter.Given as goal

abbrev pub invariant-loop-low : goal.invariant-loop-low
invariant-loop-low g l =
    (l.from ≤ l.low) × ((v : ℕ) → l.from ≤ v → v < l.low → among l.job (at (g.T.Table.rows l.self.table.now) v).targets ≡ false)

abbrev pub decreases-loop-low : goal.decreases-loop-low
decreases-loop-low g l = 256 - l.low
