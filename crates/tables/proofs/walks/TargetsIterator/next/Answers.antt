-- The next target is the first of those that are left.
use Rattle.tables.specs.Walks.{targets_left}
use Rattle.tables.proofs.TargetLemmas.{target_walk_steps}
use Rattle.tables.proofs.WalksLeft.{first_makes_progress}
use Rattle.rows.specs.Waiting.{at}
use Rattle.tables.proofs.walks.TargetsIterator.next.Goals as goal

pub returns-clause-steps : goal.returns-clause-steps
returns-clause-steps g c =
    let walk = c.args.self.now in
    target_walk_steps (at (g.T.Table.rows walk.table.now) walk.job).targets walk.places c.next.new.self c.in_ok-place.place c.target.result c.in_ok-place.ensures.steps c.target.ensures

pub returns-clause-goes : goal.returns-clause-goes
returns-clause-goes g c =
    let walk = c.args.self.now in
    first_makes_progress (targets_left g.T.Table.rows) walk c.target.result (record walk { places = c.next.new.self })
    (target_walk_steps (at (g.T.Table.rows walk.table.now) walk.job).targets walk.places c.next.new.self c.in_ok-place.place c.target.result c.in_ok-place.ensures.steps c.target.ensures)
