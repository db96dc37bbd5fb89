pub mod Cuts
pub mod Reports
mod ShownLines
pub mod Told
