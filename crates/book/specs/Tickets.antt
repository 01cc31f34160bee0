-- What openings and endings by tickets answer.
use Rattle.std.specs.Prelude.{Ok, Err, Result}
use Rattle.histories.specs.Calls.{Answer, done, ticket, returned}
use Rattle.store.specs.Plain.{refusal}
use Rattle.store.specs.Faults.{number}
use Rattle.store.specs.declared.fault.BookFault.{BookFault}
use Rattle.book.specs.declared.ticket.RefusedEnding.{RefusedEnding}
use Rattle.book.specs.declared.ticket.Ticket.{Ticket}

-- Of an opening: its ticket, or its refusal.
abbrev pub open_reply : Result Ticket BookFault → Answer
open_reply (Ok t) = ticket t.mark t.depth
open_reply (Err fault) = refusal fault

-- Of an ending: done, or its refusal with the ticket that comes back.
abbrev pub end_reply : Result (Unit {0}) RefusedEnding → Answer
end_reply (Ok u) = done
end_reply (Err e) = returned (number e.fault) e.ticket.mark e.ticket.depth
