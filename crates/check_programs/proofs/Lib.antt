pub mod BodyLemmas
pub mod MarkTableLemmas
pub mod StructLemmas
