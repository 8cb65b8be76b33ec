pub mod Arenas
pub mod Picks
pub mod WatchLists
