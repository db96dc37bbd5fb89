pub mod CForms
pub mod Expressions
pub mod Known
pub mod Relations
pub mod Statements
