pub mod Shapes
pub mod Structs
pub mod Tests
pub mod Ranks
pub mod Walks
pub mod Answers
