pub mod Laws
pub mod Seen
pub mod Several
pub mod Start
