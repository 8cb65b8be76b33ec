pub mod MarkLemmas
pub mod UnattackedLemmas
