pub mod AbaReadings
pub mod Atoms
pub mod AtomText
pub mod Axioms
pub mod AbaAxioms
pub mod AxiomNames
pub mod AxiomText
pub mod Literals
pub mod LoopRows
pub mod Notions
pub mod Pieces
pub mod Valuations
pub mod Worlds
pub use Rattle.aba_laws as aba_laws
pub use Rattle.aba_laws.specs.semantics as semantics
