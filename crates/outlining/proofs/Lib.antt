mod AppendLemmas
pub mod Cuts
mod EntryLemmas
pub mod ExistingOutlines
mod LawLemmas
mod OutlineLemmas
mod StructCellLemmas
