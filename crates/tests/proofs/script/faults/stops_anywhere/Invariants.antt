use Rattle.book.specs.CallSteps.{SameGroups}
use Rattle.tests.proofs.script.faults.stops_anywhere.Given as goal

abbrev pub invariant-loop-script : goal.invariant-loop-script
invariant-loop-script g l = SameGroups l.fn.book l.book
