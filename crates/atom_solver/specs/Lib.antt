pub mod Assumed
pub mod Imported
pub mod Inner
pub mod Lifted
pub mod Searches
pub mod Sides
pub mod States
pub mod Tables
