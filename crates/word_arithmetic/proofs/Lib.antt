pub mod OperandLemmas
pub mod PrefixLemmas
pub mod SignedLemmas
pub mod WordLemmas
