mod GlobalLemmas
mod ResolveLemmas
mod StartLemmas
pub mod FlattenLemmas
