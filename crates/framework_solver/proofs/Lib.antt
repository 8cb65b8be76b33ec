pub mod Finding
pub mod Forcing
pub mod GoingOn
pub mod ImportLemmas
pub mod Joining
pub mod KindLemmas
pub mod UpdateLemmas
