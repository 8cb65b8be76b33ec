pub mod AbaTable
pub use Rattle.meaning_atoms.specs.aba_laws as aba_laws
pub use Rattle.meaning_atoms as meaning_atoms
