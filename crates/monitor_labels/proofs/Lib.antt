pub mod CountLemmas
pub mod EdgeLemmas
pub mod NumberLemmas
pub mod OrderLemmas
pub mod PlaceLemmas
pub mod SeedLemmas
pub mod VerdictLemmas
mod Worked
