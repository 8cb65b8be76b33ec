-- Two rising lists with the same members are the same.
pub use Rattle.lists.proofs.RisingLists.{same_rising}
