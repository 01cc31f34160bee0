-- A checked row is stored whole.
use Rattle.rows.proofs.ComparisonLemmas.{is_stored_whole}
use Rattle.rows.proofs.plain.checks.PlainRowFromRow.from.Goals as goal

pub returns : goal.returns
returns c = is_stored_whole c.args.row
