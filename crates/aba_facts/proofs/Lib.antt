pub mod CutLemmas
pub mod FactLemmas
