-- Groups before any call.
use Rattle.std.specs.Prelude.{ℕ, min, [], replicate}
use Rattle.groups.specs.declared.store.TheConstants.{TRAIL_MAX}
use Rattle.groups.specs.State.{State}

-- At first all rows are the same, and no group is open. The trail has as many records as the lent memory, at most 1,024.
abbrev pub fresh : {P : Type 0} → (n : ℕ) → P → (mark memory : ℕ) → State P
fresh n row mark memory = record { rows = replicate n row; groups = []; mark = mark; trail_room = min memory TRAIL_MAX }
