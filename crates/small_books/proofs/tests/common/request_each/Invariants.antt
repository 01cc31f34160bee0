use Rattle.book.specs.CallSteps.{SameGroups}
use Rattle.small_books.proofs.tests.common.request_each.Given as goal

abbrev pub invariant-loop-job : goal.invariant-loop-job
invariant-loop-job g l = SameGroups l.fn.book l.book
