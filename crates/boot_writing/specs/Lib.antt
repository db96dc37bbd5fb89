pub mod LeftParts
