pub mod Extensions
pub mod Modes
pub mod Ordered
pub mod Preferred
pub mod Marks
pub mod Ranges
pub mod Witnesses
pub use Rattle.goal_lists as goal_lists
pub use Rattle.cegar_preferred as cegar_preferred
pub use Rattle.semi_stable as semi_stable
