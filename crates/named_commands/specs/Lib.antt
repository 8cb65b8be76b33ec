pub mod NamedTexts
pub mod Namings
pub mod Numberings
