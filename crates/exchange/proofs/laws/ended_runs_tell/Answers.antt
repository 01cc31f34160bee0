use Rattle.exchange.proofs.EndedRuns.{ended_runs_tell}
use Rattle.exchange.proofs.laws.ended_runs_tell.Goals as goal

pub returns : goal.returns
returns c = ended_runs_tell
