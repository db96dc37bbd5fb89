pub mod Onward
pub mod Laters
mod Cuts
pub mod Endings
mod TwoAddersTurn
pub mod TurnsTheorems
