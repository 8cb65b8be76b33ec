pub mod AbaModels
pub mod Listing
pub mod Places
pub mod Brought
