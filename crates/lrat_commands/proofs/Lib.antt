pub mod ExportingLemmas
pub mod VerifyingLemmas
