pub mod Arguments
pub mod Reading
pub mod Lines
pub mod Exact
pub mod RoundTrip
pub mod Writing
