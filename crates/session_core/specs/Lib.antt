pub mod Replies
pub mod Following
pub mod Sessions
pub mod Telling
pub mod Laws
pub mod CoreRuns
pub mod EditRuns
pub mod ShareRuns
pub use Rattle.oracle_core as oracle_core
