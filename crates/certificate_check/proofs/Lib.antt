mod SetLemmas
mod SectionLemmas
pub mod RowLemmas
pub mod AxiomKinds
mod GoalLemmas
mod HintLemmas
mod IdleLemmas
mod RowsLemmas
mod StepLemmas
mod FlawLemmas
