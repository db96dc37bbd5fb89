pub mod Ends
pub mod FlowLines
pub mod HostLines
pub mod Lines
