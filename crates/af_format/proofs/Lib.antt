pub mod LineCauses
pub mod Zips
pub mod FirstFaults
pub mod Reading
pub mod RoundTrip
pub mod Readings
