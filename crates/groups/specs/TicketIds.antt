-- Whether a ticket id fits, and what an ending makes of the groups.
use Rattle.std.specs.Prelude.{Bool}
use Rattle.groups.specs.declared.store.TicketId.{TicketId}
use Rattle.groups.specs.declared.store.Ending.{Ending}
use Rattle.groups.specs.declared.store.Ending.TheVariants.{Keep, Cancel}
use Rattle.groups.specs.State.{State, summary, innermost, kept, cancelled}

-- The ticket id is the innermost group's.
abbrev pub fits : {P : Type 0} → State P → TicketId → Bool
fits s id = innermost s.mark (summary s) id.mark id.depth

-- What an ending makes of the groups.
abbrev pub ended_as : {P : Type 0} → Ending → State P → State P
ended_as Keep s = kept s
ended_as Cancel s = cancelled s
