pub mod Witnesses
pub mod Sections
pub mod Standing
pub mod Idle
pub mod StepRows
pub mod Flaws
