pub mod EnumerationLemmas
pub mod WalkLemmas
pub mod NeededLemmas
mod ChangeLemmas
pub mod GainedLemmas
mod OutcomeLemmas
mod PlaceLemmas
pub mod Affirmed
pub mod Readings
pub mod WorldModels
