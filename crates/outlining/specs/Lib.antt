-- What a reader has to believe: what is said of entries, the whole text, what outlining comes to, the laws.
pub mod EntryTexts
pub mod OutlineTexts
pub mod Outlines
pub mod Laws
-- What code keeps; no public clause speaks of it.
pub mod Added
pub mod StructCells
