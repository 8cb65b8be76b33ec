pub mod WidestLemmas
