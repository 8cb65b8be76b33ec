pub mod CertText
pub mod Lines
pub mod Literals
pub mod Names
pub mod Reading
pub mod StepFields
pub mod Written
