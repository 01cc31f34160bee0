-- The lemmas, by what they are about.
pub mod Places
pub mod Rings
