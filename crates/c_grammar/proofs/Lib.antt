pub mod BuildFacts
pub mod PartFacts
pub mod ProgramFacts
pub mod RuleFacts
