-- The record at the head is the oldest, and the others follow from the next cell on.
use Rattle.std.proofs.Common.{◌<◌, length, arith, rules}
use Rattle.containers.proofs.Rings.{take_leaves_ring}
use Rattle.containers.proofs.queue.QueueContainer.take.Goals as goal

pub returns : goal.returns
returns g c =
    let q = c.self.inside in
    let ring = c.self.invariant in
    let next = c.next_cell-self-inside in
    let head-less : q.head < length q.cells.now = omega (arith, ring.head, ring.few) in
    rw (← c.self.view_is)
    (take_leaves_ring q.head q.len next.result q.cells.now _ head-less (omega arith) (omega (arith, ring.few)) next.ensures.bound next.ensures.next, search rules)
