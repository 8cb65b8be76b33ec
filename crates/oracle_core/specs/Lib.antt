pub mod Answering
pub mod Answers
pub mod Engines
pub mod InHand
pub mod Sharing
pub mod Trading
pub mod TradingLaws
pub use Rattle.certificate_making as certificate_making
pub use Rattle.query_answers as query_answers
