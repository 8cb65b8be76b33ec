pub mod AfText
pub mod Causes
pub mod Faults
pub mod FirstBadLine
pub mod Headers
pub mod Written
