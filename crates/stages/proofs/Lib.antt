pub mod Commands
pub mod Cuts
pub mod Ends
mod JudgeLemmas
pub mod Joins
pub mod OneFaults
pub mod OneRefusal
pub mod RungLemmas
