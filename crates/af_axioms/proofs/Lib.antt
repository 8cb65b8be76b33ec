pub mod AbaRows
pub mod Rows
pub mod Literals
pub mod Gaps
pub mod Values
