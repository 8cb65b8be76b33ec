pub mod Blocks
pub mod Buckets
pub mod Changes
pub mod Offsets
pub mod PairOrder
pub mod StableSort
pub use Rattle.semantics as semantics
