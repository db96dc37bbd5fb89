pub mod AskedLemmas
pub mod OpenedLemmas
pub mod PermissionLemmas
pub mod PlainLemmas
pub mod SearchLemmas
