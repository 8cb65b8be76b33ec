pub mod CoverLemmas
pub mod LargestLemmas
