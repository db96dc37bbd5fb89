pub mod Block
pub mod Blocks
pub mod Frames
pub mod Memory
pub mod Pieces
pub mod Stack
pub mod Table
