mod Made
pub mod OneHalves
