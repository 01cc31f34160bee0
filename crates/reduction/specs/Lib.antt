pub mod Faults
pub mod Marks
pub mod Reduced
pub mod Work
