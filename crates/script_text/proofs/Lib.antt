mod CommandCauses
mod Names
mod ReadNumbers
mod ReadLines
mod AskedLines
mod EditLines
pub mod FirstFaults
mod LineCauses
mod ListLemmas
mod GroupCauses
mod SlotLemmas
pub mod OneScript
pub mod UseLemmas
