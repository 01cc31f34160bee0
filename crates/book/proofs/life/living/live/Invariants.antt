use Rattle.std.proofs.Common.{◌≡◌, ◌≤◌, length, take, drop}
use Rattle.scripts.specs.Workspace.{workspace}
use Rattle.book.proofs.LifeInvariant.{Alive}
use Rattle.book.proofs.life.living.live.Given as goal

abbrev pub invariant-loop-place : goal.invariant-loop-place
invariant-loop-place g l =
    Alive l.fn.creation.jobs l.fn.creation.mark (length l.fn.trail) (workspace l.fn.records (g.C.Carrier.carried l.fn.carrier) l.fn.answers)
    (take l.place l.calls) (take l.place l.moments) l.book l.records (g.C.Carrier.carried l.carrier) l.answers l.written
    × (length l.calls ≤ length l.moments)
    × (drop (length l.calls) l.moments ≡ drop (length l.calls) l.fn.moments)
