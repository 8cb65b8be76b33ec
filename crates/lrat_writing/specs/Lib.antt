pub mod Pieces
pub mod Texts
pub mod Walks
pub mod Writers
