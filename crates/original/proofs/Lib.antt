pub mod Cuts
pub mod OneOutcome
pub mod RunLemmas
mod Parts
mod MachineRunEndLemmas
mod MachineRunGateLemmas
mod MachineRun
mod MachineRunMarkLemmas
