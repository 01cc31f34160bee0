-- Some place has the job just where the job is among the targets.
use Rattle.std.proofs.Common.{length, rules, ◌∙◌, refl, arith}
use Rattle.std.proofs.lemmas.Iterator.{YieldsList-from_range}
use Rattle.std.proofs.lemmas.Iterator.Search.{any_from_yields_List}
use Rattle.rows.specs.Waiting.{at}
use Rattle.rows.specs.Places.{target_at}
use Rattle.rows.proofs.Reading.{some_is_the_job}
use Rattle.tables.proofs.TargetLemmas.{is_target, some_place_has_it}
use Rattle.tables.proofs.table.Table.waits_for.Goals as goal
use borrow.Author.Tests.{tests}

pub returns : goal.returns
returns g c =
    let targets = (at (g.Self.Table.rows c.args.self.now) c.args.waiter).targets in
    any_from_yields_List (λ place. is_target c.args.job (target_at targets place)) _ _ c.any.result c.any.ensures.ran
    (YieldsList-from_range 0 _ (length targets) refl (omega (arith, c.target_count.ensures)))
    (λ x b q k. search (rules, tests))
    ∙ (some_place_has_it c.args.job targets (length targets) 0 (omega arith) ∙ some_is_the_job c.args.job targets)
