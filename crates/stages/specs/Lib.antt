pub mod Climb
pub mod Commands
pub mod FlowFaults
pub mod GivenHosts
pub mod Laws
pub mod Seen
pub mod Stops
