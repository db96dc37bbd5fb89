pub mod KeptHandlesLie
pub mod KeptLaws
pub mod AskedLaws
