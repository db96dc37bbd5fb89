pub mod Heard
pub mod Marks
pub mod Gates
pub mod Bringing
pub mod Working
pub mod Standing
pub mod Handling
pub mod Monitors
