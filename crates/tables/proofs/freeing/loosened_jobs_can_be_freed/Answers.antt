-- The theorem is the proof of the contract.
use Rattle.tables.proofs.Grants.{loosened_can_be_freed}
use Rattle.tables.proofs.freeing.loosened_jobs_can_be_freed.Goals as goal

pub returns : goal.returns
returns c = loosened_can_be_freed
