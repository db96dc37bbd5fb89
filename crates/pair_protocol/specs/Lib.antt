pub mod Links
pub mod Pair
pub mod Serving
pub mod Sides
pub mod SlaveRun
pub mod OrderAdder
pub mod OrderLaws
