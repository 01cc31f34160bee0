use Rattle.std.proofs.Common.{◌≡◌, ◌+◌, ◌-◌, length}
use Rattle.scripts.specs.RunningScripts.{progress_of, Within}
use Rattle.scripts.proofs.Reading.{Underway}
use Rattle.scripts.proofs.steps.work.Given as goal

abbrev pub invariant-loop-position : goal.invariant-loop-position
invariant-loop-position g l =
    Within l.store l.answers l.tally
    × (l.store.state.mark ≡ l.fn.store.state.mark)
    × (length l.store.state.groups + l.fn.tally.groups ≡ length l.fn.store.state.groups + l.tally.groups)
    × Underway l.script l.fn.position (progress_of l.fn.store l.fn.records (g.C.Carrier.carried l.fn.carrier) l.fn.answers l.fn.tally)
    l.position (progress_of l.store l.records (g.C.Carrier.carried l.carrier) l.answers l.tally)

abbrev pub decreases-loop-position : goal.decreases-loop-position
decreases-loop-position g l = length l.script - l.position.offset
