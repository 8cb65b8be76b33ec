pub mod ConeLemmas
pub mod OverlaidLemmas
pub mod SearchLemmas
pub mod StartLemmas
pub mod TestLemmas
