pub mod MarksLaws
pub mod SlotsLaws
pub mod FaultsLaws
