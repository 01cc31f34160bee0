-- The first job that waits is the first waiter.
use Rattle.std.proofs.Common.{◌≡◌, true, false, rules}
use Rattle.std.proofs.lemmas.Iterator.{first_from_Range}
use Rattle.rows.specs.Waiting.{at, among}
use Rattle.tables.proofs.WaiterLemmas.{first_who_waits_is_the_first_waiter}
use Rattle.tables.proofs.table.TwoWayTable.next_waiter.Goals as goal
use borrow.Author.Tests.{tests}

pub returns : goal.returns
returns g c =
    let rows = g.Self.Table.rows c.args.self.now in
    first_who_waits_is_the_first_waiter rows c.args.job c.args.from c.jobs.result c.jobs.ensures.value c.find.result
    (first_from_Range _ _ _ c.find.result (λ v. among c.args.job (at rows v).targets ≡ true) (λ v. among c.args.job (at rows v).targets ≡ false) c.find.ensures.ran (λ x q k. search (rules, tests)) (λ x q k. search (rules, tests)))
