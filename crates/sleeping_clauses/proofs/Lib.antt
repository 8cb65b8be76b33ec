pub mod Falsifying
pub mod Mirroring
