-- Records with some entries changed, as lemmas speak of them.
use Rattle.std.proofs.Common.{ℕ, true, Some}
use Rattle.carriers.specs.declared.message.Wait.{Wait}
use Rattle.exchange.specs.declared.record.RunRecord.{RunRecord}

abbrev pub freed : (acks : ℕ) → RunRecord → RunRecord
freed acks r = record r { free = true; acks_due = acks }

abbrev pub with_granted : ℕ → RunRecord → RunRecord
with_granted n r = record r { granted = n }

abbrev pub with_notified_by : Wait → RunRecord → RunRecord
with_notified_by w r = record r { notified_by = Some w }

abbrev pub with_freed_by : Wait → RunRecord → RunRecord
with_freed_by w r = record r { freed_by = Some w }
