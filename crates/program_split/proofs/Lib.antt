pub mod Cuts
pub mod OneOutcome
mod Parts
