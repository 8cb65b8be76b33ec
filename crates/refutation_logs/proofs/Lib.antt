pub mod Standing
pub mod Loggings
pub mod Accepted
pub mod Counting
pub mod UsedHints
