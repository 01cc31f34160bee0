-- The records from the place on are turned by one, so that the one at the place is past the last.
use Rattle.std.proofs.Common.{rules}
use Rattle.std.proofs.lemmas.List.{places}
use Rattle.containers.proofs.Places.{turned_by_one_and_back}
use Rattle.containers.proofs.stack.Stack.take_at.Goals as goal

pub returns : goal.returns
returns g c =
    let s = c.self.inside in
    rw (← c.self.view_is)
    (search (rules, places), turned_by_one_and_back s.len c.args.place s.cells.now _ _ c.if-place-self.false c.self.invariant c.rotate_left.ensures.after, search (rules, places))
