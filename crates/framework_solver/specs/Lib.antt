pub mod Following
pub mod Needing
pub mod Readings
pub mod Solvers
pub mod Stepping
pub mod SteppingLaws
pub mod Stopping
pub mod Updating
