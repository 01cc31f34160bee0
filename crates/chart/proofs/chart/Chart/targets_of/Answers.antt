-- A right row has few targets.
use Rattle.std.proofs.Common.{List, ℕ, ◌≤◌, subst, sym}
use Rattle.rows.specs.declared.plain.TheConstants.{TARGETS_MAX}
use Rattle.chart.specs.Layout.{count_byte}
use Rattle.chart.proofs.Rows.{right_rows_have_few_targets}
use Rattle.chart.proofs.chart.Chart.targets_of.Goals as goal

pub targets_in-requires : goal.targets_in-requires
targets_in-requires c =
    let rows = c.args.self.now.rows.now in
    let row = c.in-Some.row.now in
    let found = c.in-Some.ensures.lookup in
    subst (λ (bytes : List ℕ). count_byte bytes ≤ TARGETS_MAX) (sym found.1) (right_rows_have_few_targets _ rows c.args.self.now.right c.args.job row found.3.0)
