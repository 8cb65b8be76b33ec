pub mod LargeInputs
pub mod Promises
pub mod Rows
pub mod Runs
pub mod Scripts
pub mod Seen
pub mod Writing
pub use Rattle.argue_commands as argue_commands
