pub mod ImportLemmas
pub mod RowLemmas
