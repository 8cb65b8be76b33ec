pub mod SideLemmas
pub mod RangeLemmas
pub mod ClaimLemmas
pub mod HitLemmas
