use Rattle.std.proofs.Common.{◌≡◌, length, take, drop}
use Rattle.groups.specs.State.{rolled_back}
use Rattle.groups.proofs.store.calls.roll_back.Given as goal

abbrev pub invariant-loop-old : goal.invariant-loop-old
invariant-loop-old g l = record {
  rows : rolled_back l.rows (drop l.start l.trail.items) ≡ rolled_back l.initial.rows (drop l.start l.initial.trail.items);
  items : take l.start l.trail.items ≡ take l.start l.initial.trail.items;
  capacity : l.trail.capacity ≡ l.initial.trail.capacity;
}

abbrev pub decreases-loop-old : goal.decreases-loop-old
decreases-loop-old g l = length l.trail.items
