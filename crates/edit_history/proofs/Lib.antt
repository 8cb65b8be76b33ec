pub mod EntryLemmas
pub mod HubLemmas
pub mod ServerLemmas
