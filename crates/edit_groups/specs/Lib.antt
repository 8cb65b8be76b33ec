pub mod Changes
pub mod Gaining
pub mod Taking
