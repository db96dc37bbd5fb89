pub mod Adjacent
pub mod Laws
pub mod Levels
pub mod Marks
pub mod Paths
pub mod Reached
pub mod Shown
pub mod Walk
