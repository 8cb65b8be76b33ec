pub mod Analyses
pub mod Learning
