pub mod BodiesLemmas
pub mod FaultLemmas
pub mod NameTableLemmas
