pub mod Marks
pub mod Unattacked
