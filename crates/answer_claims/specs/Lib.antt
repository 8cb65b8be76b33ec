pub mod SideClauses
pub mod SetFacts
pub mod ClaimParts
pub use Rattle.edit_rules as edit_rules
