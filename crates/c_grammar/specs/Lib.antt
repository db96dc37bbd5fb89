pub mod Builds
pub mod Grammar
pub mod Item
pub mod Machine
pub mod Numbers
pub mod Part
pub mod Sets
pub mod Table
