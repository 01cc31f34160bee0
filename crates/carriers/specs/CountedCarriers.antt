-- Carriers made of a container of messages and a count of those handed out.
use Rattle.std.specs.Prelude.{ℕ, List, []}
use Rattle.containers.specs.Held.{Held}
use Rattle.carriers.specs.Carriers.{Carried}
use Rattle.carriers.specs.declared.counted.Counted.{Counted}
use Rattle.carriers.specs.declared.message.Message.{Message}
use Rattle.carriers.specs.declared.picked.Picked.{Picked}

-- What a container of messages and a count of those handed out mean as a carrier.
abbrev pub carried_from : Held Message → (handed : ℕ) → Carried
carried_from held handed = record { waiting = held.items; capacity = held.capacity; handed = handed }

-- The same of a carrier, where `held` tells what its container holds.
abbrev pub carried_by : {C : Type 0} → (held : C → Held Message) → Counted C → Carried
carried_by held c = carried_from (held c.messages) c.handed

-- The same where the container is seen as what it holds, as a queue and a stack are.
abbrev pub held_carried : Counted (Held Message) → Carried
held_carried = carried_by (λ (held : Held Message). held)

-- The container of a carrier.
abbrev pub container : {C : Type 0} → Counted C → C
container c = c.messages

-- What a picker's messages are held in.
abbrev pub picker_messages : Picked → Held Message
picker_messages p = p.messages

-- A picker's picks that are left.
abbrev pub picks_left : Picked → List ℕ
picks_left p = p.picks.now

-- A carrier in which nothing waits, and which has handed out none.
abbrev pub new_carrier : (capacity : ℕ) → Carried
new_carrier capacity = record { waiting = []; capacity = capacity; handed = 0 }
