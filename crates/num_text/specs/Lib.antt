pub mod Cuts
pub mod Number
pub mod Views
pub mod Lines
pub mod Numerals
