-- What a reader has to believe: nodes and their labels, which objects and arrows are shown, the text, what
-- drawing comes to, the law.
pub mod Nodes
pub mod Labels
pub mod Objects
pub mod Arrows
pub mod PictureText
pub mod Pictures
pub mod PicturedSeen
pub mod Laws
-- What code keeps; no public clause speaks of it.
pub mod Kept
