mod BeginLemmas
mod CallLemmas
mod HearingLemmas
mod MovedLemmas
mod ReachedLemmas
mod ReturnLemmas
mod SignedLemmas
pub mod SlaveLemmas
mod WalkLemmas
