pub mod Summaries
pub mod Taken
pub mod Checking
pub mod Runs
pub mod Laws
pub mod Generator
pub mod Scripts
pub mod InputLaws
pub mod Walks
pub mod WalkLaws
pub mod Served
pub mod Running
pub mod Shared
pub mod Transcripts
pub mod Sorting
pub mod Finishing
pub mod CoreWalks
pub use Rattle.session_core as session_core
pub use Rattle.session_core.specs.oracle_core as oracle_core
