-- What a job keeps during a run, at its start.
use Rattle.std.specs.Prelude.{false, None}
use Rattle.exchange.specs.declared.record.RunRecord.{RunRecord}

-- The record of a job that no message has reached.
abbrev pub blank : RunRecord
blank = record { notified = false; free = false; granted = 0; dones_due = 0; acks_due = 0; notified_by = None; freed_by = None }
