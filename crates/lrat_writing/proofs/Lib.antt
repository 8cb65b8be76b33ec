pub mod CnfBack
pub mod RoomsAndOrder
pub mod LratBack
pub mod PieceLemmas
pub mod Readable
pub mod Verifies
pub mod ZeroLines
pub mod WriterLemmas
