-- With counts that fit, the row fits where no target is wrong.
use Rattle.std.proofs.Common.{sym, ap, is_some, ◌∙◌}
use Rattle.rows.proofs.Laws.{fits_where_counts_fit_and_none_is_wrong}
use Rattle.rows.proofs.parts.row_fits.Goals as goal

pub returns-then-counts_fit : goal.returns-then-counts_fit
returns-then-counts_fit c =
    fits_where_counts_fit_and_none_is_wrong c.args.jobs c.args.job c.args.need c.args.targets.now c.is_none.result (sym c.if-counts_fit.ensures) (sym (ap is_some c.first_wrong.ensures) ∙ c.is_none.ensures)
