pub mod Outside
pub mod Counted
pub mod MemHeld
