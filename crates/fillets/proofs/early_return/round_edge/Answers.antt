use Rattle.wait_book.specs.Plain.{plain}
use Rattle.fillets.proofs.GroupedEdit.{cancel_leaves}
use Rattle.fillets.proofs.early_return.round_edge.Goals as goal

pub returns-then-thin-clause-after : goal.returns-then-thin-clause-after
returns-then-thin-clause-after c = cancel_leaves plain c.in_ok-ticket.ensures.called c.request-asked.ensures c.cancel.ensures.called
