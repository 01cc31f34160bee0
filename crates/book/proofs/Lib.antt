pub mod LifeInvariant
pub mod GrantLemmas
pub mod Lives
