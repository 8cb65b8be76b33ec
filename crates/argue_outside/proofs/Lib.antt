pub mod CountedLemmas
pub mod MemHeldLemmas
pub mod OutsideLemmas
