-- The lemmas, by topic; crates above may cite them.
pub mod TargetLemmas
pub mod Laws
pub mod WaiterLemmas
pub mod Grants
pub mod WalksLeft
pub mod Sizes
mod BitMatrixLemmas
mod BitScans
