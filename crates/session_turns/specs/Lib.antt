pub mod Turns
pub mod TurnsLaws
pub mod TwoAdders
