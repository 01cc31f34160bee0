pub mod Events
pub mod Law
