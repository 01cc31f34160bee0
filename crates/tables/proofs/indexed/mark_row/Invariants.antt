-- The targets that have come are marked.
use Rattle.rows.specs.Waiting.{at}
use Rattle.tables.specs.Walks.{targets_left}
use Rattle.tables.proofs.BitMatrixLemmas.{RowFront}
use Rattle.tables.proofs.indexed.mark_row.Given as goal

abbrev pub invariant-loop-target : goal.invariant-loop-target
invariant-loop-target g l =
    RowFront (at (g.T.Table.rows l.table) l.job).targets (targets_left g.T.Table.rows l.target-iterator) l.job l.count l.initial.words l.words
