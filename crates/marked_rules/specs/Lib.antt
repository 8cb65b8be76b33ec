pub mod Cone
pub mod Overlaid
pub mod Search
pub mod Tests
