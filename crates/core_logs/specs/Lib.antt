pub mod Sources
pub mod Tests
