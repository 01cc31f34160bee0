-- The theorem is the proof of the contract.
use Rattle.rows.proofs.LawFactsLemmas.{law_is_tested}
use Rattle.rows.proofs.law.row_law_is_tested.Goals as goal

pub returns : goal.returns
returns c = law_is_tested
