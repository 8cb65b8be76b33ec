pub mod GrowingLemmas
pub mod Refuting
pub mod StepTruth
