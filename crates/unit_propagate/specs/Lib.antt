pub mod Search
pub mod States
pub mod Steps
