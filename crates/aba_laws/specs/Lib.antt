pub mod AfNotions
pub mod Deciding
pub mod Laws
pub use Rattle.semantics as semantics
