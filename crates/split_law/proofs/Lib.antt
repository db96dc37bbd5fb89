pub mod Accepted
pub mod Agreeing
pub mod Chosen
pub mod LoweredCode
pub mod Monitors
pub mod Parts
pub mod Slaves
