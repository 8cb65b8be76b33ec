pub mod Checks
pub mod Inputs
pub mod Opening
pub mod Queries
pub mod Replacing
pub mod Solves
pub mod Statuses
pub mod Texts
