pub mod Ideals
pub mod Rounds
