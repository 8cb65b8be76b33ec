pub mod Sleeping
pub mod Steps
