pub mod Laws
pub mod LexingLaw
