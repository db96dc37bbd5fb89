pub mod Places
pub mod Values
pub mod Memory
pub mod Arguments
pub mod NextStep
pub mod Stores
pub mod StepKeeps
pub mod Outside
mod Examples
mod WorkedPrograms
pub mod WorkedRun
