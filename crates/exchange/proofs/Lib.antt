-- The lemmas, by topic; crates above may cite them.
pub mod Sums
pub mod Weights
pub mod LawfulRows
pub mod Entries
pub mod Reactions
pub mod DeliveryInvariants
pub mod BoundLemmas
pub mod EndedRuns
pub mod Ranks
pub mod ExactDeliveries
pub mod Termination
pub mod Rounds
pub mod RoundsLemmas
pub mod RecordChanges
