pub mod CutLemmas
pub mod NumberLemmas
pub mod Decimals
pub mod KeptLines
pub mod LineEnds
pub mod SkippedLines
pub mod DigitFields
pub mod NumeralLemmas
