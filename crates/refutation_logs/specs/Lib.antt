pub mod Variables
pub mod Logged
pub mod Counts
pub mod Tables
pub mod Exports
