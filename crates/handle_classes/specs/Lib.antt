pub mod Classes
pub mod Judgment
pub mod Invariant
pub mod Computes
pub mod Laws
