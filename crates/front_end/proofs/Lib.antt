mod SortedFaults
pub mod OneReading
