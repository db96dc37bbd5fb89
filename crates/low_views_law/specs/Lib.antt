pub mod Alike
pub mod GuardedCalls
pub mod Laws
pub mod Pairs
pub mod Unserved
pub mod ToldBootsBareBoots
pub mod ToldBootsLaws
pub mod ToldBootsSameForSlave
