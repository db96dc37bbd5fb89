mod DistinctLemmas
mod MoveLemmas
pub mod MovedLemmas
mod PartLemmas
pub mod Worked
