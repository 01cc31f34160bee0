use Rattle.std.proofs.Common.{refl, Some, None}
use Rattle.scripts.specs.RunningScripts.{progress_of}
use Rattle.scripts.proofs.ScriptCalls.{ran_counts}
use Rattle.scripts.proofs.ScriptSimulation.{worked_ran}
use Rattle.scripts.proofs.run.run_script.Goals as goal

pub returns-in-Ok-clause-ran : goal.returns-in-Ok-clause-ran
returns-in-Ok-clause-ran g c =
    let w = c.work-worked.new in
    worked_ran c.if-script-gt-SCRIPT_MAX.false (record {
      fault = None;
      there = w.position;
      last = progress_of w.store w.records (g.C.Carrier.carried w.carrier) w.answers w.tally;
      reads = c.in-Ok.ensures.reads;
      says = refl;
      leaves = c.cancel_groups.ensures.value;
      hands_back = refl;
    })

pub returns-in-Err-clause-ran : goal.returns-in-Err-clause-ran
returns-in-Err-clause-ran g c =
    let w = c.work-worked.new in
    worked_ran c.if-script-gt-SCRIPT_MAX.false (record {
      fault = Some c.in-Err.fault;
      there = w.position;
      last = progress_of w.store w.records (g.C.Carrier.carried w.carrier) w.answers w.tally;
      reads = c.in-Err.ensures.reads;
      says = refl;
      leaves = c.cancel_groups.ensures.value;
      hands_back = refl;
    })

pub returns-in-Ok-clause-counts : goal.returns-in-Ok-clause-counts
returns-in-Ok-clause-counts g c = ran_counts (returns-in-Ok-clause-ran g c)

pub returns-in-Err-clause-counts : goal.returns-in-Err-clause-counts
returns-in-Err-clause-counts g c = ran_counts (returns-in-Err-clause-ran g c)
