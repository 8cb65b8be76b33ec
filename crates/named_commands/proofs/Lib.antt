mod TextLemmas
pub mod NamingLemmas
