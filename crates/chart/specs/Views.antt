-- The rows that a chart tells.
use Rattle.std.specs.Prelude.{ℕ, List, map, length, Ok, Err, Result}
use Rattle.std.specs.Borrow.{Bor}
use Rattle.rows.specs.Waiting.{Waiting}
use Rattle.chart.specs.declared.chart.Chart.{Chart}
use Rattle.chart.specs.declared.fault.ChartFault.{ChartFault}
use Rattle.chart.specs.Faults.{number, value, Refusal, refused}
use Rattle.chart.specs.Layout.{row_of}

-- The rows of a chart.
abbrev pub rows_of : Chart → List Waiting
rows_of c = map row_of c.rows.now

-- How many rows there are, or what the refusal tells.
abbrev pub rows_counted : Result (Bor (List (List ℕ))) ChartFault → Result ℕ Refusal
rows_counted (Ok rows) = Ok (length rows.now)
rows_counted (Err fault) = Err (refused (number fault) (value fault))
