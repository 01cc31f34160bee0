-- What a row is, its law, what changes it, and what the types of the program stand for.
pub mod Waiting
pub mod Changes
pub mod Law
pub mod Storage
pub mod LawFacts
pub mod Obeys
pub mod Places
pub mod StoredRows
