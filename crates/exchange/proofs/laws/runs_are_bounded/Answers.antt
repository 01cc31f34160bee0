use Rattle.exchange.proofs.BoundLemmas.{runs_are_bounded}
use Rattle.exchange.proofs.laws.runs_are_bounded.Goals as goal

pub returns : goal.returns
returns c = runs_are_bounded
