-- What the steps of a detection ask for.
use Rattle.std.specs.Prelude.{◌+◌, ◌≤◌, List, length}
use Rattle.carriers.specs.Carriers.{Carried}
use Rattle.carriers.specs.declared.message.Message.{Message}

-- A carrier has room for some more messages.
abbrev pub RoomFor : Carried → List Message → Type 0
RoomFor carrier messages = length carrier.waiting + length messages ≤ carrier.capacity
