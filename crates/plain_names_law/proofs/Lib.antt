mod TokenNames
mod PartNames
mod BuildNames
mod RuleNames
mod ProgramNames
mod FunctionNames
pub mod TextNames
