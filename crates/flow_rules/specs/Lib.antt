-- What a reader has to believe: the rules, what faults and acceptance are, the laws.
pub mod Faults
pub mod Findings
pub mod FlowsView
pub mod Laws
pub mod Numbers
pub mod Secrets
-- What code keeps on the way; no public clause speaks of it.
pub mod Kept
pub mod Memory
pub mod Told
