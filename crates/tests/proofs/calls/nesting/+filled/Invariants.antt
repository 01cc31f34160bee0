use Rattle.tests.proofs.calls.nesting.+filled.Given as goal

abbrev pub decreases-filled : goal.decreases-filled
decreases-filled l = l.most
