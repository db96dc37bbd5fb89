mod DeclarationsNames
mod DeclarationsTextNames
mod DeclarationsTemporaries
mod DeclarationsFewVariables
mod DeclarationsHalves
mod DeclarationsStands
mod DeclarationsTags
mod DeclarationsUnions
mod DeclarationsParameters
mod DeclarationsFunctions
mod DeclarationsPrograms
mod DeclarationsSaidAlike
mod DeclarationsSaidHalves
mod DeclarationsSaidAccepted
mod DeclarationsAccepted
mod DeclarationsTreesAreMarked
pub mod CallsFrames
pub mod CallsEntering
pub mod CallsReturns
pub mod CallsLocals
pub mod CallsScenes
pub mod CallsDepths
pub mod CallsStructs
pub mod CallsMarked
pub mod CallsEntries
pub mod CallsLaw
pub mod CallsHosts
pub mod CallsHostLaw
mod TextsHosts
mod TextLemmas
