pub mod LineLemmas
mod NumberLemmas
pub mod OneOutcome
pub mod ShownLemmas
mod Worked
