pub mod AskedGoals
pub mod GoalKinds
pub mod Calls
pub mod RunLemmas
pub mod Lacking
pub mod Measures
pub mod SideLemmas
pub mod QueryGoals
