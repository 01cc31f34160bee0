use Rattle.std.proofs.Common.{◌<◌, refl, sym, arith}
use Rattle.histories.specs.Calls.{edits, opens}
use Rattle.store.specs.Replies.{edit_of}
use Rattle.scripts.specs.Scripts.{opened, ended, not_edited, not_opened, no_group}
use Rattle.scripts.proofs.CommandLemmas.{fault_stops, refused_far, edit_carried}
use Rattle.scripts.proofs.steps.carry_out.Goals as goal

pub returns-in_err-open-in-Open-clause-done : goal.returns-in_err-open-in-Open-clause-done
returns-in_err-open-in-Open-clause-done g c =
    let k = c.in_err-open-in-Open.ensures in
    rw c.in-Open.is (fault_stops _ _ _ c.from_residual.result _ c.from_residual.ensures.1 (not_opened (sym k.value) refl) (refused_far _ _ _ _ _ _ opens _ k))

pub returns-then-tally-eq0-clause-done : goal.returns-then-tally-eq0-clause-done
returns-then-tally-eq0-clause-done g c = rw c.in-End.is (no_group c.if-tally-eq0.true refl, refl)

pub returns-in_err-edit-in-Edit-clause-done : goal.returns-in_err-edit-in-Edit-clause-done
returns-in_err-edit-in-Edit-clause-done g c =
    let k = c.in_err-edit-in-Edit.ensures in
    rw c.in-Edit.is (fault_stops _ _ _ c.from_residual-in_err-edit-in-Edit.result _ c.from_residual-in_err-edit-in-Edit.ensures.1 (not_edited (sym k.value) refl) (refused_far _ _ _ _ _ _ (edits (edit_of c.in-Edit.edit)) _ k))

pub returns-in_ok-open-in-Open-clause-done : goal.returns-in_ok-open-in-Open-clause-done
returns-in_ok-open-in-Open-clause-done g c =
    let k = c.in_ok-open-in-Open.ensures in
    rw (c.in-Open.is, k.after) (opened (sym k.value))

pub returns-else-tally-eq0-clause-done : goal.returns-else-tally-eq0-clause-done
returns-else-tally-eq0-clause-done g c =
    let open_still : 0 < c.args.tally.now.groups = omega (arith, c.if-tally-eq0.false) in
    rw (c.in-End.is, c.end_innermost.ensures.after) (ended open_still c.end_innermost.ensures.value)

pub returns-in_ok-edit-in-Edit-clause-done : goal.returns-in_ok-edit-in-Edit-clause-done
returns-in_ok-edit-in-Edit-clause-done g c = rw c.in-Edit.is (edit_carried _ _ _ _ _ _ (edit_of c.in-Edit.edit) c.in_ok-edit-in-Edit.ensures)
