pub mod Beginning
pub mod Doings
pub mod Engines
pub mod Hearing
pub mod Hearings
pub mod Returning
pub mod Running
pub mod Slaves
