mod NoFault
mod ValuesGiven
mod SolveLaws
mod ValueWords
pub mod RequestNames
pub mod RequestLaws
mod FoundLaws
pub mod TakenWords
