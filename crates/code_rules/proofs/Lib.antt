pub mod Called
mod OperatorLemmas
mod PathLemmas
pub mod SearchLemmas
mod StatementLaws
mod TypingLaws
