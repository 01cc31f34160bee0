-- Between two takes, what waits and what was handed out come to the same sum as at the start.
use Rattle.std.proofs.Common.{◌≡◌, ◌+◌, ◌%◌, ◌^◌, length}
use Rattle.carriers.proofs.draining.take_all.Given as goal

abbrev pub invariant-loop : goal.invariant-loop
invariant-loop g l =
    let before = g.C.Carrier.carried l.initial.carrier in
    let after = g.C.Carrier.carried l.carrier in
    (after.capacity ≡ before.capacity)
    × ((after.handed + length after.waiting) % 2 ^ 32 ≡ (before.handed + length before.waiting) % 2 ^ 32)

abbrev pub decreases-loop : goal.decreases-loop
decreases-loop g l = length (g.C.Carrier.carried l.carrier).waiting
