pub mod CallLemmas
pub mod ListLemmas
pub mod MoreLemmas
pub mod ReachLemmas
pub mod TableLemmas
pub mod WalkLemmas
