pub mod AbaText
pub mod Faults
pub mod Finishing
pub mod Reading
pub mod Written
