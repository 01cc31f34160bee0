-- The write lands just after the records, ahead or round the end.
use Rattle.std.proofs.Common.{◌<◌, length, arith, rules}
use Rattle.containers.proofs.Rings.{put_joins_ring}
use Rattle.containers.proofs.queue.QueueContainer.put.Goals as goal

pub returns-clause-after : goal.returns-clause-after
returns-clause-after g c =
    let q = c.self.inside in
    let ring = c.self.invariant in
    let head-less : q.head < length q.cells.now = omega (arith, ring.head, ring.few) in
    let len-less : q.len < length q.cells.now = omega (arith, ring.few) in
    let tail-less : q.tail < length q.cells.now = omega (arith, ring.tail) in
    rw (← c.self.view_is, put_joins_ring q.head q.len q.tail q.cells.now c.args.element head-less len-less tail-less ring.after) (search rules)
