-- What the contracts speak of.
pub mod Held
pub mod Orders
pub mod Rings
pub mod Taken
