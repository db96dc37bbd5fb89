pub mod Came
pub mod CameLaws
pub mod Counts
pub mod Ends
pub mod Halves
pub mod Onward
pub mod Reading
