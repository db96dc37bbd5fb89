-- What a reader has to believe: values that move, where they go, and their edges.
pub mod Edges
pub mod Items
pub mod MoveView
pub mod Moves
-- What code keeps on the way; no public clause speaks of it.
pub mod Assignments
pub mod Distinct
pub mod ItemParts
pub mod KeptItems
pub mod Targets
pub mod Within
