use Rattle.std.proofs.Common.{refl, ◌∙◌}
use Rattle.wait_book.specs.Plain.{plain}
use Rattle.fillets.proofs.GroupedEdit.{cancel_leaves, keep_leaves, round_accepted}
use Rattle.fillets.proofs.second_group.round_twice.Goals as goal

pub returns-clause-after : goal.returns-clause-after
returns-clause-after c =
    let made = keep_leaves plain c.in_ok-ticket.ensures.called c.in_ok-asked.ensures c.keep.ensures.called in
    let tried = cancel_leaves plain c.in_ok-ticket-2.ensures.called c.request-tried.ensures c.cancel.ensures.called in
    let taken = round_accepted plain c.in_ok-ticket.ensures.called c.in_ok-asked.ensures refl in
    rw (taken.0, taken.1) (tried ∙ made)
