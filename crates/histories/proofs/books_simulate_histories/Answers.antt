-- The theorem is the proof of the contract.
use Rattle.histories.proofs.SimulationLemmas.{simulates}
use Rattle.histories.proofs.books_simulate_histories.Goals as goal

pub returns : goal.returns
returns g c = simulates
