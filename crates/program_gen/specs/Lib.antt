pub mod Draws
pub mod Functions
pub mod Policies
pub mod Programs
