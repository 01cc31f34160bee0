use Rattle.std.proofs.Common.{◌≡◌, ◌+◌, ◌-◌, arith}
use Rattle.scripts.proofs.Reading.{no_command_step, stopped_step, carried_step}
use Rattle.scripts.proofs.steps.step.Goals as goal

pub returns-in_err-command-clause-steps : goal.returns-in_err-command-clause-steps
returns-in_err-command-clause-steps g c =
    let back : c.drop-guard.new.self.0 - c.args.place.now ≡ 0 = omega (arith, c.drop-guard.ensures) in
    no_command_step c.from_residual.result _ c.from_residual.ensures.1 c.in_err-command.ensures back

pub returns-in_err-carry_out-clause-steps : goal.returns-in_err-carry_out-clause-steps
returns-in_err-carry_out-clause-steps g c =
    let back : c.drop-guard-in_err-carry_out.new.self.0 - c.args.place.now ≡ 0 = omega (arith, c.drop-guard-in_err-carry_out.ensures) in
    stopped_step _ _ c.from_residual-in_err-carry_out.result _ c.in_ok-command.ensures.0 c.from_residual-in_err-carry_out.ensures.1 c.in_err-carry_out.ensures.done back

pub returns-clause-steps : goal.returns-clause-steps
returns-clause-steps g c =
    let on : c.command.new.place - c.args.place.now + 0 ≡ c.drop-guard-2.new.self.0 - c.args.place.now = omega (arith, c.drop-guard-2.ensures) in
    carried_step _ _ c.in_ok-command.ensures.0 c.in_ok-carry_out.ensures.done on
