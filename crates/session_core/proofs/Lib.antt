pub mod AskRuns
pub mod EditRunLemmas
pub mod FollowingLemmas
mod ReplyLemmas
mod RunLemmas
mod SessionLemmas
mod ShareRunLemmas
