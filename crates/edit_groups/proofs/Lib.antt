pub mod TakingLemmas
pub mod GainingLemmas
pub mod ChangeLemmas
