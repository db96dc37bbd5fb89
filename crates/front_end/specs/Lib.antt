pub mod ParseFaults
pub mod Errors
pub mod Reading
pub mod FaultLines
pub mod FrontLines
pub mod FaultLinesSeen
