pub mod Chains
pub mod TreeLists
