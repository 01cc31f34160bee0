pub mod Creation
pub mod Faults
pub mod Plain
pub mod Replies
pub mod Memory
pub mod Snapshots
