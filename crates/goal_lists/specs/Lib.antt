pub mod AllSets
pub mod Asking
pub mod Runs
pub mod Sides
pub mod Words
