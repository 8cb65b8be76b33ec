pub mod Widest
