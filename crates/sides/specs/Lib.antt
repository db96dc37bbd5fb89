-- What a reader has to believe: leaves, slots, objects, what is carried, seeds, what `place` answers, the laws.
pub mod Carried
pub mod Laws
pub mod Leaves
pub mod Objects
pub mod Placed
pub mod Seeds
pub mod Slots
-- Tables that make slots quick to ask, and how code sees what it keeps.
pub mod Layouts
pub mod LeafTables
pub mod Paths
pub mod ScopeView
-- What code keeps on the way; no public clause speaks of it.
pub mod Marking
pub mod Moved
pub mod Outs
pub mod Patterns
