pub mod FrameworkLemmas
pub mod AbaWorlds
pub mod AfWorlds
pub mod LoopClauses
pub mod Validity
pub mod Bounds
