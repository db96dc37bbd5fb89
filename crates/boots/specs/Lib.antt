pub mod WholeReading
pub mod Laws
