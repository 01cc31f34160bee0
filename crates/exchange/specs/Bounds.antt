-- How long a run can be, how many messages can wait, and what each of them finds.
use Rattle.std.specs.Prelude.{◌≡◌, ℕ, ◌*◌, ◌<◌, ◌≤◌, true, List, length, slice_index_or}
use Rattle.std.specs.List.{AllByRecursion}
use Rattle.carriers.specs.declared.message.Kind.{Kind}
use Rattle.carriers.specs.declared.message.Kind.TheVariants.{Notify, Done, Grant, Ack}
use Rattle.carriers.specs.declared.message.Message.{Message}
use Rattle.carriers.specs.declared.message.Wait.{Wait}
use Rattle.rows.specs.Waiting.{Waiting, at}
use Rattle.tables.specs.Tables.{lawful}
use Rattle.tables.specs.Waits.{waits}
use Rattle.carriers.specs.Messages.{receiver}
use Rattle.exchange.specs.Records.{blank}
use Rattle.exchange.specs.Limits.{deliveries_per_wait, capacity_per_wait}
use Rattle.exchange.specs.Runs.{RunState, Exchange}
use Rattle.exchange.specs.declared.record.RunRecord.{RunRecord}

-- A DONE finds one due, and so does an ACK; a GRANT finds a job that was granted less often than it has targets. So no count
-- falls below 0, and none rises above what a row allows.
abbrev pub IsDue : List Waiting → Kind → Wait → RunRecord → Type 0
IsDue rows Notify w r = Unit {0}
IsDue rows Done w r = 0 < r.dones_due
IsDue rows Grant w r = r.granted < length (at rows w.waiter).targets
IsDue rows Ack w r = 0 < r.acks_due

-- A message goes to a job, and finds there what it answers.
pub record IsExpected (rows : List Waiting) (records : List RunRecord) (m : Message) : Type 0 where
  pub job : receiver m < length rows
  pub due : IsDue rows m.kind m.wait (slice_index_or records (receiver m) blank)

-- What holds wherever a run has come to, after k deliveries.
pub record IsBounded (rows : List Waiting) (k : ℕ) (s : RunState) : Type 0 where
  -- each job has a record
  pub records : length s.records ≡ length rows
  -- there are at most four deliveries a wait, so every run ends
  pub deliveries : k ≤ deliveries_per_wait * waits rows
  -- there are never more than two messages a wait
  pub messages : length s.waiting ≤ capacity_per_wait * waits rows
  pub awaited : AllByRecursion (IsExpected rows s.records) s.waiting

-- It holds at every moment of every run from an initiator, in whatever order the messages come.
abbrev pub RunsBounded : List Waiting → ℕ → Type 0
RunsBounded rows initiator = (order : List Message) (s : RunState) → Exchange rows initiator order s → IsBounded rows (length order) s

-- So it is over every lawful table, from each of its jobs.
abbrev pub RunsAreBounded : Type 0
RunsAreBounded = (rows : List Waiting) → lawful rows ≡ true → (initiator : ℕ) → initiator < length rows → RunsBounded rows initiator
