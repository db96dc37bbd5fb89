pub mod GlobalItemLemmas
pub mod ItemLemmas
pub mod StatementLemmas
