pub mod Conversions
pub mod Laws
pub mod Operators
pub mod Types
