-- The lemmas, by topic; crates above cite those that are public.
pub mod Reading
mod Scans
pub mod Counts
pub mod Fits
pub mod Places
mod StoredRowLemmas
pub mod ComparisonLemmas
pub mod Laws
pub mod ObeysLemmas
pub mod LawFactsLemmas
