pub mod Conversion
pub mod Operator
pub mod Comparisons
