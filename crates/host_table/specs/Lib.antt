pub mod Entries
pub mod Found
pub mod HostFaults
pub mod Hosts
pub mod ReportLines
pub mod RunHosts
pub mod Whole
pub mod Written
