pub mod FormLemmas
pub mod OutputLemmas
pub mod PieceLemmas
pub mod PurityLemmas
pub mod SwitchLemmas
pub mod WaysLemmas
pub mod WorkedCore
