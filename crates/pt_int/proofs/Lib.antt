pub mod Conversions
pub mod Division
pub mod OneConversion
pub mod Ranges
pub mod Shifts
pub mod WordBits
pub mod Words
