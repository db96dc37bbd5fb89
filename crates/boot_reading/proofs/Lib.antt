pub mod Loop
pub mod FirstOperands
