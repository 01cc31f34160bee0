-- From target to target.
use Rattle.std.proofs.Common.{arith}
use Rattle.tables.proofs.BitMatrixLemmas.{none_is_marked_at_first, next_is_in_row, next_is_marked_too}
use Rattle.tables.proofs.indexed.mark_row.Goals as goal

pub loop-target-init : goal.loop-target-init
loop-target-init g c = none_is_marked_at_first (rw c.into_iter-target-iterator.ensures.into_iter_gives c.targets-target-items.ensures)

pub overflow_add-count : goal.overflow_add-count
overflow_add-count g c = omega (arith, next_is_in_row c.loop-target.invariant c.in-Some.ensures.steps)

pub loop-target-preserved : goal.loop-target-preserved
loop-target-preserved g c = next_is_marked_too c.loop-target.invariant c.in-Some.ensures.steps c.mark.ensures
