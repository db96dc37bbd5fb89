pub mod Fits
pub mod Kept
pub mod Laws
pub mod Outside
pub mod StepLaws
pub mod Called
pub mod CalledKeeping
