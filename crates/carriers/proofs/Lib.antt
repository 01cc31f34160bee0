-- The lemmas, by what they are about.
pub mod Counts
pub mod Sends
