-- What a reader has to believe: the two texts, and the laws.
pub mod Names
pub mod Tables
pub mod Policies
pub mod TableData
pub mod Laws
-- What code appends; no public clause speaks of it.
pub mod Hosts
