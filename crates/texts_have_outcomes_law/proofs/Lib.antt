mod ShownSlots
pub mod Judged
pub mod Climbs
pub mod Commands
pub mod NoOutcomes
