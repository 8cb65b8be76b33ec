pub mod Acceptance
pub mod Agreement
pub mod Claims
pub mod Laws
pub mod Orders
pub mod Ranges
pub mod Refutations
pub mod Rights
pub mod SetLiterals
pub mod Verdicts
pub mod Words
pub use Rattle.aba_axioms as aba_axioms
pub use Rattle.aba_axioms.specs.aba_laws as aba_laws
pub use Rattle.af_axioms as af_axioms
pub use Rattle.aba_axioms.specs.meaning_atoms as meaning_atoms
pub use Rattle.iccma_tasks as iccma_tasks
pub use Rattle.iccma_tasks.specs.semantics as semantics
