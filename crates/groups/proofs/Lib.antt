pub mod ObeysLemmas
pub mod TrailParts
pub mod RepresentationLemmas
pub mod RollBackLemmas
pub mod ViewLemmas
