mod BeginLemmas
mod ClearLemmas
mod FlatLemmas
mod FrameLemmas
mod HeldLemmas
mod LayoutLemmas
mod LocalsLemmas
mod MemoryLemmas
mod OpenLemmas
mod PutLemmas
mod ShapeLemmas
mod VariableLemmas
pub mod WordLemmas
