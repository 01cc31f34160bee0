use Rattle.std.proofs.Common.{◌≡◌, length}
use Rattle.tests.proofs.calls.trails.group_takes_as_many_edits_as_records.Given as goal

abbrev pub invariant-loop-2 : goal.invariant-loop-2
invariant-loop-2 g l = (l.ticket.mark ≡ l.book.state.mark) × (l.ticket.depth ≡ length l.book.state.groups)
