-- From waiter to waiter.
use Rattle.std.proofs.Common.{sym, ◌∙◌, arith}
use Rattle.tables.proofs.Laws.{who_waits_is_a_job}
use Rattle.tables.proofs.WaiterLemmas.{waiters_are_who_waits}
use Rattle.tables.proofs.Sizes.{waiters_are_few}
use Rattle.detection.proofs.SendLemmas.{next_is_within, next_is_among, next_has_room, next_is_sent_too}
use Rattle.detection.proofs.puts.send_grants.Goals as goal

pub overflow_cast-wait : goal.overflow_cast-wait
overflow_cast-wait g c =
    let table = c.args.table.now in
    let rows = g.T.Table.rows table.table.now in
    let waits = sym (waiters_are_who_waits rows c.args.job c.in-Some.waiter) ∙ next_is_among c.loop-waiter.invariant c.in-Some.ensures.steps in
    omega (arith, who_waits_is_a_job rows c.in-Some.waiter c.args.job waits, table.tabled.few)

pub send-requires : goal.send-requires
send-requires g c = next_has_room c.loop-waiter.invariant c.in-Some.ensures.steps c.requires.room

pub overflow_add-count : goal.overflow_add-count
overflow_add-count g c =
    let table = c.args.table.now in
    omega (arith, waiters_are_few (g.T.Table.rows table.table.now) table.tabled c.args.job, next_is_within c.loop-waiter.invariant c.in-Some.ensures.steps)

pub loop-waiter-preserved : goal.loop-waiter-preserved
loop-waiter-preserved g c = next_is_sent_too c.loop-waiter.invariant c.in-Some.ensures.steps c.send.ensures
