pub mod Links
pub mod Parts
pub mod Scopes
pub mod Typing
