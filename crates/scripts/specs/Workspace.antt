-- What is lent to scripts and detections: the run records, the carrier, by its meaning, and the answer bytes.
use Rattle.std.specs.Prelude.{ℕ, List}
use Rattle.carriers.specs.Carriers.{Carried}
use Rattle.exchange.specs.declared.record.RunRecord.{RunRecord}

-- The records, what the carrier means, and the bytes.
pub record Workspace : Type 0 where
  pub records : List RunRecord
  pub carrier : Carried
  pub bytes : List ℕ

-- The three of them.
abbrev pub workspace : List RunRecord → Carried → (bytes : List ℕ) → Workspace
workspace records carrier bytes = record { records = records; carrier = carrier; bytes = bytes }
