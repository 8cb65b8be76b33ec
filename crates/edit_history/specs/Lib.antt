pub mod Faults
pub mod Entries
pub mod Journals
pub mod Hubs
pub mod Servers
pub mod Closing
