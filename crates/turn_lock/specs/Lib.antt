pub mod Turns
pub mod Locks
pub mod Seats
