pub mod CallLemmas
pub mod TestLemmas
pub mod CompleteStableLemmas
pub mod PreferredLemmas
pub mod WidestLemmas
pub mod IdealLemmas
pub mod AllLemmas
