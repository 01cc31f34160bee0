-- What a detection is stopped by, what it leaves, and what its steps ask for.
pub mod Detected
pub mod Preconditions
