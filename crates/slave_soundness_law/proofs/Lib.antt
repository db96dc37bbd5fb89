pub mod Beginning
pub mod Hosts
pub mod Stepping
pub mod Taking
pub mod Typed
pub mod MessagesBeginning
mod MessagesGates
pub mod MessagesSaying
mod MessagesSpans
pub mod MessagesStepping
mod MessagesSteps
pub mod MessagesTaking
mod MessagesWriting
