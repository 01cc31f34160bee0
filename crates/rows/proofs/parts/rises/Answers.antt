-- The targets rise where each is below the next.
use Rattle.std.proofs.Common.{rules, ltb}
use Rattle.std.proofs.lemmas.List.Sorted.{answers_always}
use Rattle.rows.proofs.Scans.{rising_where_neighbours_rise}
use Rattle.rows.proofs.parts.rises.Goals as goal

pub returns : goal.returns
returns c = rising_where_neighbours_rise c.args.targets.now c.is_sorted_by.result (c.is_sorted_by.ensures.cases ltb (answers_always _ _ _ (λ f a r q k. search rules)))
