-- What the calls and answers of the program stand for.
use Rattle.std.specs.Prelude.{Ok, Err, Result}
use Rattle.groups.specs.declared.store.TicketId.{TicketId}
use Rattle.store.specs.declared.calls.Edit.{Edit}
use Rattle.store.specs.declared.calls.Edit.TheVariants.{Grant, Request}
use Rattle.store.specs.declared.fault.BookFault.{BookFault}
use Rattle.store.specs.declared.fault.RefusedTicketId.{RefusedTicketId}
use Rattle.store.specs.Faults.{number}
use Rattle.store.specs.Plain.{requests, grants, Edit as EditCall, refusal}
use Rattle.histories.specs.Calls.{Answer, done, ticket, returned}

-- Of an edit: done, or its refusal.
abbrev pub edit_reply : Result (Unit {0}) BookFault → Answer
edit_reply (Ok u) = done
edit_reply (Err fault) = refusal fault

-- Of an opening, by its ticket id: the ticket that tells the same; or its refusal.
abbrev pub open_reply_by_id : Result TicketId BookFault → Answer
open_reply_by_id (Ok k) = ticket k.mark k.depth
open_reply_by_id (Err fault) = refusal fault

-- Of an ending, by its ticket id: done, or its refusal with the ticket id that comes back.
abbrev pub end_reply_by_id : Result (Unit {0}) RefusedTicketId → Answer
end_reply_by_id (Ok u) = done
end_reply_by_id (Err e) = returned (number e.fault) e.id.mark e.id.depth

-- The edit that a value of the program says.
abbrev pub edit_of : Edit → EditCall
edit_of (Grant granter waiter) = grants granter waiter
edit_of (Request job need targets) = requests job need targets.now
