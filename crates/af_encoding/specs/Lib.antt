pub mod Changes
pub mod Decoded
pub mod Enumerations
pub mod Told
pub mod NumberAtoms
