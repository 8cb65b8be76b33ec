pub mod Attacks
pub mod Bases
