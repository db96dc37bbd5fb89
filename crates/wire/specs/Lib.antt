pub mod Spelling
pub mod Limits
pub mod Frames
pub mod View
pub mod Steps
pub mod Laws
pub mod Reading
pub mod Fronts
