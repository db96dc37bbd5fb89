pub mod ProgramLemmas
pub mod SetLemmas
pub mod WalkLemmas
