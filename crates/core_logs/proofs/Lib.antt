pub mod Fronts
pub mod HintTests
pub mod LiteralTests
pub mod NewTests
pub mod SameEntries
pub mod SourceTests
pub mod Walked
