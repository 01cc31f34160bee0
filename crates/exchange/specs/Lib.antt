-- The exchange, from its parts to what holds of every run.
pub mod Records
pub mod Rules
pub mod Runs
pub mod Limits
pub mod Bounds
pub mod Verdicts
