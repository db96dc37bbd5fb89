pub mod Halves
pub mod Sets
pub mod Accepted
