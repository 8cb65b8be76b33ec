pub mod FreeLemmas
pub mod AssumptionLemmas
pub mod AttackerLemmas
pub mod IdealLemmas
pub mod RoundLemmas
pub mod PartLemmas
