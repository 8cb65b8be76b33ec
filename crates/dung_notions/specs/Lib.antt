pub mod Grounding
pub mod Neighbours
pub mod Notions
pub mod Ranges
pub mod Search
pub mod Solid
pub mod Storage
pub mod WrittenOut
pub use Rattle.attack_index as attack_index
