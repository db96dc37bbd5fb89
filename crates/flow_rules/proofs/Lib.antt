mod FindingLemmas
pub mod FlowLemmas
mod MemoLemmas
mod ObjectLemmas
pub mod OneJudgement
pub mod PrivLemmas
mod SecretLemmas
mod SharedLemmas
pub mod ToldLemmas
mod UnmarkedLemmas
mod Ways
pub mod Worked
