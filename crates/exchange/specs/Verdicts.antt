-- What a run tells when it is over.
use Rattle.std.specs.Prelude.{◌≡◌, ℕ, ◌<◌, true, ◌↔◌, List, [], length, slice_index_or}
use Rattle.carriers.specs.declared.message.Message.{Message}
use Rattle.rows.specs.Waiting.{Waiting}
use Rattle.tables.specs.Tables.{lawful}
use Rattle.tables.specs.Grants.{CanBeFreed}
use Rattle.exchange.specs.Records.{blank}
use Rattle.exchange.specs.Runs.{RunState, Exchange}

-- What is so of a run that is over: the initiator is free exactly if some list of lawful grants, the empty one counted, makes it active;
-- and every DONE and every ACK that was due to a job has come.
pub record Ended (rows : List Waiting) (initiator : ℕ) (s : RunState) : Type 0 where
  pub tells : ((slice_index_or s.records initiator blank).free ≡ true) ↔ CanBeFreed rows initiator
  pub dones : (j : ℕ) → j < length rows → (slice_index_or s.records j blank).dones_due ≡ 0
  pub acks : (j : ℕ) → j < length rows → (slice_index_or s.records j blank).acks_due ≡ 0

-- A run is over when no message waits. So it ends, in whatever order its messages came.
abbrev pub EndedRunsTell : Type 0
EndedRunsTell =
    (rows : List Waiting) → lawful rows ≡ true → (initiator : ℕ) → initiator < length rows
    → (order : List Message) (s : RunState) → Exchange rows initiator order s → s.waiting ≡ [] → Ended rows initiator s
