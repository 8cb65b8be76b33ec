pub mod Digests
pub mod NameEquality
pub mod Names
pub mod Once
pub mod Taking
