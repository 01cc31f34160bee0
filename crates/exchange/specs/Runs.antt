-- Runs of the exchange: from the initiator's spread, one delivery after the other. Which message comes next, and in which order
-- the messages of one step are put, is free.
use Rattle.std.specs.Prelude.{◌≡◌, ℕ, List, [], ◌∷◌, ◌++◌, length, replicate, slice_index_or, slice_set}
use Rattle.std.specs.List.Sorted.{IsPermutation}
use Rattle.carriers.specs.declared.message.Message.{Message}
use Rattle.rows.specs.Waiting.{Waiting}
use Rattle.carriers.specs.Messages.{receiver}
use Rattle.exchange.specs.Records.{blank}
use Rattle.exchange.specs.Rules.{Act, spread, react}
use Rattle.exchange.specs.declared.record.RunRecord.{RunRecord}

-- The record of each job, and the messages that wait, as a collection: their order means nothing.
pub record RunState : Type 0 where
  pub records : List RunRecord
  pub waiting : List Message

-- What the receiver of a message does, by its record.
abbrev pub reaction : List Waiting → List RunRecord → Message → Act
reaction rows records m = react rows m.kind m.wait (slice_index_or records (receiver m) blank)

-- At the start every record is blank, and the initiator spreads.
pub record Begins (rows : List Waiting) (initiator : ℕ) (s : RunState) : Type 0 where
  pub records : s.records ≡ slice_set (replicate (length rows) blank) initiator (spread rows initiator blank).becomes
  pub waiting : IsPermutation (spread rows initiator blank).puts s.waiting

-- A delivery takes one of the messages that wait; its receiver reacts, and what it puts waits beside the rest.
pub record Delivers (rows : List Waiting) (m : Message) (before after : RunState) : Type 0 where
  pub rest : List Message
  pub taken : IsPermutation (m ∷ rest) before.waiting
  pub records : after.records ≡ slice_set before.records (receiver m) (reaction rows before.records m).becomes
  pub waiting : IsPermutation (rest ++ (reaction rows before.records m).puts) after.waiting

-- A run from one state to another, by the messages that it delivers, the first one first.
pub data Run (rows : List Waiting) : RunState → List Message → RunState → Type 0 where
  stays : {s : RunState} → Run rows s [] s
  delivers : {s t u : RunState} {m : Message} {ms : List Message} → Delivers rows m s t → Run rows t ms u → Run rows s (m ∷ ms) u

-- A run of the exchange: it begins with the initiator's spread.
pub record Exchange (rows : List Waiting) (initiator : ℕ) (order : List Message) (last : RunState) : Type 0 where
  pub first : RunState
  pub begins : Begins rows initiator first
  pub run : Run rows first order last
