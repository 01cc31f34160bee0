-- The scan of the rows tells the answer.
use Rattle.std.proofs.Common.{◌≡◌, false, length, Some, None, arith}
use Rattle.std.proofs.lemmas.Bool.Decides.{nat_tests}
use Rattle.chart.specs.Check.{wrong_length}
use Rattle.chart.proofs.CheckedCharts.{checked_by_the_scan}
use Rattle.chart.proofs.chart.checks.checked_rows.Goals as goal

pub returns-in-Some-clause-counted : goal.returns-in-Some-clause-counted
returns-in-Some-clause-counted c =
    let bytes = c.args.bytes.now in
    let right_length : wrong_length (length bytes) ≡ false = grind (arith, nat_tests) in
    checked_by_the_scan bytes c.as_chunks.result.0.now (Some c.in-Some.job) c.as_chunks.ensures.front c.as_chunks.ensures.front_len right_length c.in-Some.ensures

pub returns-in-None-clause-counted : goal.returns-in-None-clause-counted
returns-in-None-clause-counted c =
    let bytes = c.args.bytes.now in
    let right_length : wrong_length (length bytes) ≡ false = grind (arith, nat_tests) in
    checked_by_the_scan bytes c.as_chunks.result.0.now None c.as_chunks.ensures.front c.as_chunks.ensures.front_len right_length c.in-None.ensures
