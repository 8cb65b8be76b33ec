pub mod OneSet
pub mod ExtensionLemmas
pub mod ModeLemmas
pub mod OrderedLemmas
pub mod PreferredLemmas
mod KnownRanges
pub mod MarkLemmas
pub mod WidthLemmas
pub mod FoundRanges
pub mod NewRanges
pub mod RangeTurns
pub mod StepLemmas
pub mod WitnessLemmas
