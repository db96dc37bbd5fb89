pub mod Values
pub mod Trees
pub mod BootLaws
pub mod Written
pub mod Wholes
