pub mod ParsesLaws
pub mod ReadingsLaws
