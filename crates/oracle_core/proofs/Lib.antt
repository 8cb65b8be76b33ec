pub mod EntriesTaken
pub mod GroundedLemmas
pub mod OfferLemmas
pub mod TradeLemmas
pub mod Writing
