mod Silence
pub mod CallSteps
pub mod Leads
pub mod OneRun
pub mod Spots
pub mod StatementSteps
pub mod Sums
pub mod TurnBounds
pub mod WholeSteps
pub mod GatesAgreement
pub mod GatesWrittenBytes
pub mod MachinesBodies
pub mod MachinesBounds
pub mod MachinesJudging
pub mod MachinesRooms
mod MachinesWorked
pub mod ArgumentsSteps
pub mod ArgumentsPointers
