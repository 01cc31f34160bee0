-- When a detection is stopped, and what any other leaves.
use Rattle.std.specs.Prelude.{◌≡◌, ℕ, ◌+◌, ◌*◌, ◌%◌, ◌^◌, ◌<◌, ◌≤◌, cond, ◌↔◌, List, [], length, take, drop, Some, None, Option, Result, MatchResult, nat_le, nat_lt, slice_index_or}
use Rattle.std.specs.Option.{option_map}
use Rattle.std.specs.Result.{result_err}
use Rattle.carriers.specs.Carriers.{Carried}
use Rattle.carriers.specs.declared.message.Message.{Message}
use Rattle.rows.specs.Waiting.{Waiting}
use Rattle.tables.specs.Waits.{waits}
use Rattle.tables.specs.Grants.{CanBeFreed}
use Rattle.exchange.specs.Records.{blank}
use Rattle.exchange.specs.Runs.{Exchange}
use Rattle.exchange.specs.Limits.{deliveries_per_wait, capacity_per_wait}
use Rattle.exchange.specs.declared.record.RunRecord.{RunRecord}
use Rattle.detection.specs.declared.fault.DetectionFault.{DetectionFault}
use Rattle.detection.specs.declared.fault.DetectionFault.TheVariants.{NoSuchJob, TooFewRecords, MessagesWait, CarrierTooSmall}
use Rattle.detection.specs.declared.verdict.Detection.{Detection}
use Rattle.detection.specs.declared.verdict.Verdict.{Verdict}
use Rattle.detection.specs.declared.verdict.Verdict.TheVariants.{Stuck, Free}

-- 1, no such job; 10, too few records; 11, messages wait; 12, the carrier is too small. None carries a value.
abbrev pub number : DetectionFault → ℕ
number NoSuchJob = 1
number TooFewRecords = 10
number MessagesWait = 11
number CarrierTooSmall = 12

-- The number by which a detection is refused; none where it is not.
abbrev pub refusal_number : {A : Type 0} → Result A DetectionFault → Option ℕ
refusal_number r = option_map number (result_err r)

-- The first check that stops a detection, by its number. 1: the initiator is no job. 10: there are fewer records than jobs. 11: messages
-- wait in the carrier. 12: its capacity is below twice the number of waits.
abbrev pub stop : List Waiting → (initiator records : ℕ) → Carried → Option ℕ
stop rows initiator records carrier =
    cond (nat_le (length rows) initiator) (Some 1)
    (cond (nat_lt records (length rows)) (Some 10)
    (cond (nat_lt 0 (length carrier.waiting)) (Some 11)
    (cond (nat_lt carrier.capacity (capacity_per_wait * waits rows)) (Some 12) None)))

-- The initiator is stuck exactly if it is not free when the run is over.
abbrev pub verdict_of : RunRecord → Verdict
verdict_of r = cond r.free Free Stuck

-- A whole run of the exchange was made. Which messages wait in the carrier between two deliveries is the carrier's affair: it is told by
-- what it held before and holds after, and by its count.
pub record IsFinishedRun (rows : List Waiting) (initiator : ℕ) (was is : List RunRecord) (before after : Carried) (d : Detection) : Type 0 where
  -- the messages in the order in which they were delivered: a run by them ends with nothing waiting, in the records left
  pub order : List Message
  pub run : Exchange rows initiator order (record { records = take (length rows) is; waiting = [] })
  -- the count is the length of that run, and at most four for each wait; so 16 bits hold it
  pub count : d.deliveries ≡ length order
  pub few : d.deliveries ≤ deliveries_per_wait * waits rows
  pub narrow : d.deliveries < 2 ^ 16
  -- records beyond the jobs are unchanged
  pub rest : drop (length rows) is ≡ drop (length rows) was
  -- the carrier waits for nothing and is as large as before; its own count grew by the deliveries, modulo 2 ^ 32
  pub waiting : after.waiting ≡ []
  pub capacity : after.capacity ≡ before.capacity
  pub handed : after.handed ≡ (before.handed + d.deliveries) % 2 ^ 32
  -- the verdict is the initiator's record's, and is stuck exactly when no list of lawful grants makes the initiator active
  pub of_record : d.verdict ≡ verdict_of (slice_index_or is initiator blank)
  pub stuck : (d.verdict ≡ Stuck) ↔ (CanBeFreed rows initiator → ⊥)
  pub free : (d.verdict ≡ Free) ↔ CanBeFreed rows initiator

-- It is refused exactly by the first check that fails, with its number, and then changes neither records nor carrier; else a whole run is made.
pub record Detects (rows : List Waiting) (initiator : ℕ) (was is : List RunRecord) (before after : Carried) (r : Result Detection DetectionFault) : Type 0 where
  pub stopped : refusal_number r ≡ stop rows initiator (length was) before
  pub left : MatchResult r (λ d. IsFinishedRun rows initiator was is before after d) (λ _. (is ≡ was) × (after ≡ before))
