pub mod Kinds
pub mod Fitting
pub mod Edits
pub mod Replay
pub mod Groups
pub mod Applying
pub mod Laws
pub mod Refusals
pub mod Numbers
pub mod Pairs
pub mod Effects
pub mod AbaEdits
pub mod Parts
pub mod AbaEditLaws
pub use Rattle.aba_notions as aba_notions
pub use Rattle.aba_notions.specs.attack_index as attack_index
pub use Rattle.aba_notions.specs.dung_notions as dung_notions
