use Rattle.std.proofs.Common.{sym, subst, ◌≡◌, ◌∙◌, true, is_ok, arith}
use Rattle.std.proofs.lemmas.Bool.Decides.{nat_tests}
use Rattle.reduction.specs.Work.{CanBeLoosened}
use Rattle.reduction.proofs.Steps.{queue_room_left, mark_base}
use Rattle.reduction.proofs.marking.Marking.loosen.Goals as goal

pub unwrap-requires : goal.unwrap-requires
unwrap-requires g c =
    let can = subst (λ w. CanBeLoosened w c.args.job) (sym c.self.view_is) c.requires in
    let room = queue_room_left _ c.args.job c.self.invariant.0 can in
    grind (arith, nat_tests)

pub invariant_of-self : goal.invariant_of-self
invariant_of-self g c =
    let can = subst (λ w. CanBeLoosened w c.args.job) (sym c.self.view_is) c.requires in
    let room = queue_room_left _ c.args.job c.self.invariant.0 can in
    let base = mark_base _ c.args.job c.self.invariant.0 can in
    let put : is_ok c.put.result ≡ true = c.put.ensures.test ∙ grind (arith, nat_tests) in
    let after = rw put at c.put.ensures.after in
    rw after (base, c.self.invariant.1)
