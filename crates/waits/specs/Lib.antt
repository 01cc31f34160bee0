pub mod Outcome
pub mod Service
