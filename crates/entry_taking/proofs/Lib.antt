pub mod Finding
pub mod Joining
pub mod Naming
pub mod Stepping
