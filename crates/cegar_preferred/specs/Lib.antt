pub mod Covers
pub mod Largest
