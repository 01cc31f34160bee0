-- The container loses no message but the one that comes.
use Rattle.std.proofs.Common.{rules}
use Rattle.carriers.proofs.Counts.{took_one}
use Rattle.carriers.proofs.counted.CountedCarrier.take.Goals as goal

pub returns-clause-took : goal.returns-clause-took
returns-clause-took g c =
    let took = rw c.if-not-take.false at c.take.ensures in
    let loses_none = g.met.C.Container.loses_none in
    search (rules, took_one)
