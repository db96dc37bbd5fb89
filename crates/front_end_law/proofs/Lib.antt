mod ParsesSorts
mod ParsesBuildShapes
mod ParsesRuleShapes
mod ParsesStackShapes
pub mod ParsesOutcomes
mod ReadingsTypeFaultOrder
mod ReadingsTextTokens
pub mod ReadingLemmas
pub mod ReadingsTextTrees
