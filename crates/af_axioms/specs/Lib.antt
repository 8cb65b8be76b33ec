pub mod Table
pub mod Facts
pub use Rattle.dung_notions as dung_notions
pub use Rattle.meaning_atoms as meaning_atoms
pub use Rattle.meaning_atoms.specs.aba_laws as aba_laws
pub use Rattle.meaning_atoms.specs.semantics as semantics
