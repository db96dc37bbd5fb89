pub mod DefinedLemmas
pub mod JoinLemmas
pub mod RunLemmas
