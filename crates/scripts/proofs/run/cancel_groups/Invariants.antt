use Rattle.std.proofs.Common.{◌≡◌, ◌-◌, length}
use Rattle.scripts.specs.Scripts.{cancel_groups as cancelling}
use Rattle.histories.specs.Machines.{book_machine}
use Rattle.scripts.proofs.run.cancel_groups.Given as goal
use Rattle.store.specs.Plain.{plain}

abbrev pub invariant-loop : goal.invariant-loop
invariant-loop l =
    (length l.store.state.groups ≡ length l.fn.store.state.groups - l.counter)
    × (l.store.state.mark ≡ l.fn.store.state.mark)
    × (cancelling (book_machine plain) (l.groups - l.counter) l.store ≡ cancelling (book_machine plain) l.fn.groups l.fn.store)
