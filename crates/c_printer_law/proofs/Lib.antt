mod AllKinds
mod Classes
mod Declarators
mod Expressions
mod Forms
mod Functions
mod Initialisers
mod Levels
mod Operands
mod Operators
mod Program
mod Specifiers
mod Statements
mod Steps
pub mod LexingChains
pub mod LexingExpressionChains
pub mod LexingItemChains
pub mod LexingLaid
pub mod LexingConstants
pub mod LexingLayouts
pub mod LexingNeighbours
pub mod LexingSpecifierChains
pub mod LexingStarts
