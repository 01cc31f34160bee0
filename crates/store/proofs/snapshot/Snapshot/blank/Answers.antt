-- An idle row obeys the law of each job.
use Rattle.std.proofs.Common.{arith}
use Rattle.rows.specs.StoredRows.{plain_fits}
use Rattle.rows.proofs.ObeysLemmas.{replicate_obeys}
use Rattle.store.proofs.LawfulMemory.{idle_row_fits}
use Rattle.store.proofs.snapshot.Snapshot.blank.Goals as goal

pub invariant_of-result : goal.invariant_of-result
invariant_of-result c = record { few = omega arith; lawful = replicate_obeys (plain_fits 0) 256 0 c.idle.result (λ k. idle_row_fits 0 k c.idle.result c.idle.ensures) }
