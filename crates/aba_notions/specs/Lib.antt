pub mod Attacks
pub mod Closing
pub mod Solid
pub mod Storage
pub mod Unfounded
pub use Rattle.aba_laws as aba_laws
pub use Rattle.dung_notions as dung_notions
pub use Rattle.dung_notions.specs.attack_index as attack_index
