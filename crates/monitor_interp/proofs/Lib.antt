pub mod GateLemmas
pub mod BlockLemmas
pub mod WorkLemmas
pub mod CallLemmas
pub mod MessageLemmas
