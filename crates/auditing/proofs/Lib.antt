mod AuditLemmas
pub mod Cuts
pub mod ExistingAudits
pub mod NamedFunctions
pub mod OneAudit
