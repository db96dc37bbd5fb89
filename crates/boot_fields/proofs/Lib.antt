pub mod Parts
mod WorkedBoots
