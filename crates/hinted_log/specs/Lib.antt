pub mod Logs
pub mod FirstLiterals
pub mod Follows
pub mod Trimming
