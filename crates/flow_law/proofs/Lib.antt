mod MarksWays
mod MarksShortestWays
pub mod MarkLemmas
mod SlotsVecLists
mod SlotsCounts
mod SlotsTables
pub mod SlotsAllSides
mod FaultOrder
pub mod FaultsTold
