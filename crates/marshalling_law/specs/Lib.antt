pub mod RepliesLaws
pub mod TakingLaws
pub mod CallsPackable
pub mod CallsSending
pub mod CallsServed
pub mod CallsSpelled
