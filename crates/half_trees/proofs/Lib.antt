mod ChainLemmas
mod ClearingLemmas
pub mod PlaceLemmas
mod StatementLemmas
mod Worked
