-- From target to target.
use Rattle.std.proofs.Common.{arith}
use Rattle.tables.proofs.Sizes.{targets_are_few}
use Rattle.detection.proofs.SendLemmas.{none_is_sent_at_first, next_is_within, next_has_room, next_is_sent_too}
use Rattle.detection.proofs.puts.send_notifies.Goals as goal

pub loop-target-init : goal.loop-target-init
loop-target-init g c = none_is_sent_at_first (rw c.into_iter-target-iterator.ensures.into_iter_gives c.targets-target-items.ensures)

pub send-requires : goal.send-requires
send-requires g c = next_has_room c.loop-target.invariant c.in-Some.ensures.steps c.requires.room

pub overflow_add-count : goal.overflow_add-count
overflow_add-count g c =
    let table = c.args.table.now in
    omega (arith, targets_are_few (g.T.Table.rows table.table.now) table.tabled c.args.job, next_is_within c.loop-target.invariant c.in-Some.ensures.steps)

pub loop-target-preserved : goal.loop-target-preserved
loop-target-preserved g c = next_is_sent_too c.loop-target.invariant c.in-Some.ensures.steps c.send.ensures
