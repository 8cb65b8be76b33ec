pub mod AttackLemmas
pub mod ClosingLemmas
pub mod FormLemmas
pub mod GroundedLemmas
pub mod SolidLemmas
pub mod TableLemmas
pub mod UnfoundedLemmas
