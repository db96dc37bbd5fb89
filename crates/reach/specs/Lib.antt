pub mod CallGraph
pub mod Contexts
pub mod Owned
pub mod Reached
pub mod Sorted
pub mod Tables
