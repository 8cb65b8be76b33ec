pub mod Core
pub mod Laws
pub mod ServerLaws
pub mod Servers
pub mod Steps
