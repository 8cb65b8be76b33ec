pub mod Exporting
pub mod Verifying
