pub mod Lent
pub mod UsageView
pub mod Usages
pub mod LawsExpressions
pub mod Laws
