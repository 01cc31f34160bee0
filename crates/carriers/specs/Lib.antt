-- What the contracts speak of.
pub mod Faults
pub mod Messages
pub mod Carriers
pub mod Meaning
pub mod CountedCarriers
pub mod Picks
