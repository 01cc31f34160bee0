-- The theorem of any kind of book, of this one.
use Rattle.store.specs.Plain.{plain}
use Rattle.histories.proofs.SimulationLemmas.{simulates}
use Rattle.book.proofs.law.plain_books_simulate_histories.Goals as goal

pub returns : goal.returns
returns c = simulates plain
