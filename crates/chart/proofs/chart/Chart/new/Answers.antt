-- The rows that the check takes, or none, are those of a chart.
use Rattle.std.proofs.Common.{refl}
use Rattle.chart.proofs.CheckedCharts.{checked_rows_are_a_chart}
use Rattle.chart.proofs.chart.Chart.new.Goals as goal

pub invariant_of-result : goal.invariant_of-result
invariant_of-result c =
    let chart = checked_rows_are_a_chart c.args.bytes.now c.checked_rows.result _ c.unwrap_or.result c.checked_rows.ensures.counted c.checked_rows.ensures.rows refl c.unwrap_or.ensures in
    record { few = chart.few; right = chart.right }

pub returns : goal.returns
returns c = (checked_rows_are_a_chart c.args.bytes.now c.checked_rows.result _ c.unwrap_or.result c.checked_rows.ensures.counted c.checked_rows.ensures.rows refl c.unwrap_or.ensures).same_rows
