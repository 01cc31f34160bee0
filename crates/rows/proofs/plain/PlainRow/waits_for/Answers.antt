-- A job that stands at no place stands at none in use.
use Rattle.std.proofs.Common.{sym, ◌∙◌}
use Rattle.rows.proofs.Reading.{not_among_first}
use Rattle.rows.proofs.plain.PlainRow.waits_for.Goals as goal

pub returns-else-stands_somewhere : goal.returns-else-stands_somewhere
returns-else-stands_somewhere c =
    let row = c.args.self.now in
    let nowhere = sym c.stands_somewhere.ensures ∙ c.if-stands_somewhere.false in
    c.if-stands_somewhere.false ∙ sym (not_among_first c.args.job row.count row.targets nowhere)
