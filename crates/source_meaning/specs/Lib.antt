pub mod Expressions
pub mod Functions
pub mod Laws
pub mod Memory
pub mod State
pub mod Statements
pub mod Values
pub mod WholeRun
