pub mod AbaNeeded
pub mod Decoding
pub mod Entries
pub mod Goals
pub mod Growing
pub mod Kinds
pub mod Laws
pub mod Logs
pub mod Needed
pub mod Parts
pub mod StepSources
pub mod Trades
pub mod Walks
pub use Rattle.certificate_claims as certificate_claims
pub use Rattle.certificate_claims.specs.aba_axioms as aba_axioms
pub use Rattle.certificate_claims.specs.af_axioms as af_axioms
