pub mod Layout
pub mod Faults
pub mod Check
pub mod Views
pub mod Writing
