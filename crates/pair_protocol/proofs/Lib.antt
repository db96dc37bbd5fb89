pub mod OrderAdderFacts
mod OrderAhead
mod OrderEnds
pub mod OrderEvery
pub mod OrderFacts
mod OrderFolds
pub mod OrderLinkFacts
mod OrderParents
pub mod OrderSlaveFacts
mod OrderSynchronous
pub mod OrderTheorems
pub mod OrderWalks
