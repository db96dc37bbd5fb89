pub mod Checked
pub mod Kept
pub mod Laws
pub mod Shown
pub mod SlotLines
