-- What a reader has to believe: sentences, blocks and lines, what explaining comes to, the laws.
pub mod Sentences
pub mod FrontBlocks
pub mod Origins
pub mod FlowBlocks
pub mod Order
pub mod Homes
pub mod Holdings
pub mod Explains
pub mod Laws
-- What code keeps; no public clause speaks of it.
pub mod Turns
