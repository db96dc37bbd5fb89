pub mod Cuts
mod InputLemmas
pub mod OneOutcome
mod Parts
pub mod SharedLemmas
