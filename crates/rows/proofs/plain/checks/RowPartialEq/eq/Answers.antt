-- Stored rows are equal just where the rows say the same.
use Rattle.rows.proofs.ComparisonLemmas.{stored_rows_are_compared_by_what_they_say}
use Rattle.rows.proofs.plain.checks.RowPartialEq.eq.Goals as goal

pub returns : goal.returns
returns c = stored_rows_are_compared_by_what_they_say c.args.self.now c.args.other.now c.eq.result c.eq.ensures
