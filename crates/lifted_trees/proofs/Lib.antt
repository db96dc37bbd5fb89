pub mod Eaches
pub mod OperatorLemmas
pub mod FitLemmas
pub mod KeptLemmas
pub mod TypedLemmas
pub mod NodeLemmas
pub mod NoSites
pub mod BodyLemmas
pub mod OrderLemmas
pub mod NameLemmas
pub mod FunctionLemmas
pub mod WellLemmas
mod Worked
