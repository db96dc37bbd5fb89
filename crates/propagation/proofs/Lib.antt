pub mod AheadLemmas
pub mod LawLemmas
pub mod LevelLemmas
pub mod MarkLemmas
pub mod PathLemmas
pub mod PlaceLemmas
pub mod SlotLemmas
pub mod VisitLemmas
