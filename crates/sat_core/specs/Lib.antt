pub mod Mirrors
pub mod Runs
pub mod Solving
pub mod Turns
