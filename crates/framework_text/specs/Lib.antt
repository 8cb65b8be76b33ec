pub mod FrameworkText
