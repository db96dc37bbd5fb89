pub mod Fair
pub mod Stops
mod Worked
pub mod BoundsLongest
