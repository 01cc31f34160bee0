pub mod Waits
pub mod Tables
pub mod Grants
pub mod ClosedSets
pub mod Walks
pub mod BitMatrix
