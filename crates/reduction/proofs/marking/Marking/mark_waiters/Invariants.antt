-- The waiters of the words behind, and those of the bits that are left of one, are still to be looked at.
use Rattle.reduction.proofs.Steps.{Lowering}
use Rattle.reduction.proofs.WordWalk.{left_from, left_in}
use Rattle.reduction.proofs.marking.Marking.mark_waiters.Given as goal

abbrev pub invariant-loop-word : goal.invariant-loop-word
invariant-loop-word g l = Lowering l.fn.self l.job (left_from l.fn.self.rows l.job l.word) l.self

abbrev pub invariant-loop-rest : goal.invariant-loop-rest
invariant-loop-rest g l = Lowering l.fn.self l.job (left_in l.fn.self.rows l.job l.word l.rest) l.self

abbrev pub decreases-loop-rest : goal.decreases-loop-rest
decreases-loop-rest g l = l.rest
