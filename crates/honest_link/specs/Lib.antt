pub mod Came
pub mod CameLaws
pub mod Talks
