pub mod Laws
pub mod Pointers
pub mod Run
pub mod State
