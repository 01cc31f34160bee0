-- The answers that the groups' own results are.
use Rattle.std.specs.Prelude.{Some, None, Ok, Err, Option, Result}
use Rattle.groups.specs.declared.store.TicketId.{TicketId}
use Rattle.histories.specs.Calls.{Answer, done, ticket, too_deep, not_innermost}

-- Of an opening, by its ticket id: the ticket that tells the same.
abbrev pub ticket_id_answer : Option TicketId → Answer
ticket_id_answer (Some k) = ticket k.mark k.depth
ticket_id_answer None = too_deep

-- Of an ending, by the ticket id that comes back or does not.
abbrev pub ending_answer_of : Result (Unit {0}) TicketId → Answer
ending_answer_of (Ok u) = done
ending_answer_of (Err k) = not_innermost k.mark k.depth
