-- The walk from waiter to waiter, turn by turn.
use Rattle.std.proofs.Common.{◌+◌, Some, None, refl, ◌∙◌, arith}
use Rattle.tables.proofs.WaiterLemmas.{walk_starts_at_place_0, walked_waiter_is_a_job, walk_goes_on_to_the_next_place, walk_ends_at_a_place_without, no_waiter_past_as_many_places_as_jobs}
use Rattle.tables.proofs.table.TwoWayTable.waiter.Goals as goal

pub returns-then-place-jobs : goal.returns-then-place-jobs
returns-then-place-jobs g c = no_waiter_past_as_many_places_as_jobs (g.Self.Table.rows c.args.self.now) c.args.job c.args.place (omega arith)

pub returns-in_err-waiter : goal.returns-in_err-waiter
returns-in_err-waiter g c =
    let rows = g.Self.Table.rows c.args.self.now in
    c.from_residual.ensures ∙ walk_ends_at_a_place_without rows c.args.job 0 c.args.place None (walk_starts_at_place_0 rows c.args.job None c.in_err-waiter.ensures) refl (omega arith)

pub loop-init : goal.loop-init
loop-init g c = walk_starts_at_place_0 (g.Self.Table.rows c.args.self.now) c.args.job (Some c.in_ok-waiter.waiter) c.in_ok-waiter.ensures

pub overflow_add-waiter : goal.overflow_add-waiter
overflow_add-waiter g c =
    let rows = g.Self.Table.rows c.args.self.now in
    omega (arith, walked_waiter_is_a_job rows c.args.job c.loop.counter c.loop.waiter (Some c.loop.waiter) c.loop.invariant refl)

pub returns-in_err-waiter-2 : goal.returns-in_err-waiter-2
returns-in_err-waiter-2 g c =
    let rows = g.Self.Table.rows c.args.self.now in
    let none = walk_goes_on_to_the_next_place rows c.args.job c.loop.counter c.loop.waiter (Some c.loop.waiter) None c.loop.invariant refl c.in_err-waiter-2.ensures in
    c.from_residual-in_err-waiter-2.ensures ∙ walk_ends_at_a_place_without rows c.args.job (c.loop.counter + 1) c.args.place None none refl (omega arith)

pub loop-preserved : goal.loop-preserved
loop-preserved g c =
    let rows = g.Self.Table.rows c.args.self.now in
    walk_goes_on_to_the_next_place rows c.args.job c.loop.counter c.loop.waiter (Some c.loop.waiter) (Some c.in_ok-waiter-2.waiter) c.loop.invariant refl c.in_ok-waiter-2.ensures
