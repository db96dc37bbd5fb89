pub mod ObjectsCells
pub mod ObjectsLaws
pub mod SlavesMarked
pub mod SlavesLaws
