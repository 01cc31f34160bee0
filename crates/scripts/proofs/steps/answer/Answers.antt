use Rattle.std.proofs.Common.{◌+◌, ◌≤◌, length, refl, sym, arith}
use Rattle.scripts.specs.Commands.{detecting}
use Rattle.scripts.specs.Scripts.{no_space, not_detected, answered}
use Rattle.scripts.proofs.CommandLemmas.{fault_stops, bytes_behind}
use Rattle.scripts.proofs.steps.answer.Goals as goal

pub returns-then-answers-tally-lt-DETECTION_BYTES-clause-done : goal.returns-then-answers-tally-lt-DETECTION_BYTES-clause-done
returns-then-answers-tally-lt-DETECTION_BYTES-clause-done g c = (no_space (omega (arith, c.requires.written, c.if-answers-tally-lt-DETECTION_BYTES.true)) refl, refl)

pub returns-in_err-found-clause-done : goal.returns-in_err-found-clause-done
returns-in_err-found-clause-done g c =
    let e = c.in_err-found.ensures in
    fault_stops (detecting c.args.job) _ _ c.from_residual.result _ c.from_residual.ensures.1
    (not_detected (omega (arith, c.requires.written, c.if-answers-tally-lt-DETECTION_BYTES.false)) (sym e.detects.stopped) refl)
    (rw (e.detects.left.0, e.detects.left.1) refl)

pub answer_bytes-requires : goal.answer_bytes-requires
answer_bytes-requires g c = c.in_ok-found.ensures.detects.left.narrow

pub returns-clause-done : goal.returns-clause-done
returns-clause-done g c =
    let e = c.in_ok-found.ensures in
    let fits : c.args.tally.now.written + 4 ≤ length c.args.answers.now = omega (arith, c.requires.written, c.if-answers-tally-lt-DETECTION_BYTES.false) in
    rw (c.copy_from_slice.ensures.after, c.answer_bytes.ensures, bytes_behind c.args.tally.now.written c.args.answers.now)
    (answered fits e.detects)
