pub mod Counting
pub mod Descending
pub mod Ending
pub mod Literally
pub mod Meeting
pub mod Points
pub mod Walking
