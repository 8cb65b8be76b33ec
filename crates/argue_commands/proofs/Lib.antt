pub mod CheckLemmas
pub mod InputLemmas
pub mod KnownLemmas
pub mod OpeningLemmas
pub mod QueryLemmas
pub mod ReplacingLemmas
pub mod SolveLemmas
