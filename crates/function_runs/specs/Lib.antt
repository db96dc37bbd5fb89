pub mod Defined
pub mod Parts
pub mod Runs
