pub mod AnswerSteps
pub mod AnswerText
pub mod KindText
pub mod Names
pub mod Tasks
pub mod WrittenText
pub use Rattle.semantics as semantics
