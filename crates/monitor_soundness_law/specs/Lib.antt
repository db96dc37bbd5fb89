pub mod Laws
pub mod ServingSound
pub mod ServingLaws
