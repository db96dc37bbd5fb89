pub mod Joined
mod LentLemmas
pub mod UsageLemmas
mod LawsListed
mod LawsStanding
