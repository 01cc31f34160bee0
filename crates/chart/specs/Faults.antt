-- The number of each refusal of a chart, and the value that it carries.
use Rattle.std.specs.Prelude.{ℕ, Some, None, Ok, Err, Option, Result}
use Rattle.chart.specs.declared.fault.ChartFault.{ChartFault}
use Rattle.chart.specs.declared.fault.ChartFault.TheVariants.{WrongLength, WrongRow}

-- The number of each refusal.
abbrev pub number : ChartFault → ℕ
number WrongLength = 18
number (WrongRow job) = 19

-- A wrong row is told by its job.
abbrev pub value : ChartFault → Option ℕ
value WrongLength = None
value (WrongRow job) = Some job

-- What a refusal tells: its number and its value.
pub record Refusal : Type 0 where
  pub number : ℕ
  pub value : Option ℕ

-- A refusal of this number and value.
abbrev pub refused : (number : ℕ) → (value : Option ℕ) → Refusal
refused number value = record { number = number; value = value }

-- The number of jobs, or what the refusal tells.
abbrev pub check_answer : Result ℕ ChartFault → Result ℕ Refusal
check_answer (Ok n) = Ok n
check_answer (Err fault) = Err (refused (number fault) (value fault))
