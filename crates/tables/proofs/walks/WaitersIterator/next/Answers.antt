-- The next waiter is the first of those that are left.
use Rattle.std.proofs.Common.{sym, ap, length, rules, arith}
use Rattle.tables.proofs.WaiterLemmas.{no_waiters_left, no_waiters_left_past_the_last_job, next_waiter_heads_those_left, next_waiter_is_a_job}
use Rattle.tables.proofs.walks.WaitersIterator.next.Goals as goal

pub returns-then-self-jobs-clause-steps : goal.returns-then-self-jobs-clause-steps
returns-then-self-jobs-clause-steps g c =
    let walk = c.args.self.now in
    let none = no_waiters_left_past_the_last_job (g.T.Table.rows walk.table.now) walk.job walk.from (omega (arith, c.jobs.ensures.value)) in
    (none, none)

pub returns-in_err-waiter-clause-steps : goal.returns-in_err-waiter-clause-steps
returns-in_err-waiter-clause-steps g c =
    let walk = c.args.self.now in
    let none = no_waiters_left (g.T.Table.rows walk.table.now) walk.job walk.from (sym c.in_err-waiter.ensures) in
    rw c.from_residual.ensures (none, none)

pub overflow_add-self : goal.overflow_add-self
overflow_add-self g c =
    let walk = c.args.self.now in
    let job = next_waiter_is_a_job (g.T.Table.rows walk.table.now) walk.job walk.from c.in_ok-waiter.waiter (sym c.in_ok-waiter.ensures) in
    omega (arith, job, c.jobs.ensures.value, c.jobs.ensures.bound)

pub returns-clause-steps : goal.returns-clause-steps
returns-clause-steps g c =
    let walk = c.args.self.now in
    next_waiter_heads_those_left (g.T.Table.rows walk.table.now) walk.job walk.from c.in_ok-waiter.waiter (sym c.in_ok-waiter.ensures)

pub returns-clause-goes : goal.returns-clause-goes
returns-clause-goes g c =
    let walk = c.args.self.now in
    let step = next_waiter_heads_those_left (g.T.Table.rows walk.table.now) walk.job walk.from c.in_ok-waiter.waiter (sym c.in_ok-waiter.ensures) in
    let shorter = ap length step in search rules
