pub mod ArmLemmas
pub mod FunctionLemmas
pub mod LeafLemmas
pub mod LoopLemmas
pub mod WalkLemmas
