pub mod CheckingLemmas
pub mod HintCheckLemmas
pub mod LitOrder
pub mod TrailLemmas
pub mod OneOutcome
pub mod Renaming
pub mod RowLemmas
