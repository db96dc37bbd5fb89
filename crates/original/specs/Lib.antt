pub mod Laws
pub mod Original
pub mod Seen
pub mod MachineRunHeard
pub mod MachineRunHostGates
pub mod MachineRunRunTold
