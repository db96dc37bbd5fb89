pub mod FormsSettings
pub mod FormsSameTypes
pub mod FormsStanding
pub mod FormsSteps
pub mod FormsPlaces
pub mod FormsRules
pub mod FormLemmas
pub mod FormsParts
pub mod FormsExpressions
pub mod FormsLeaves
pub mod FormsStatements
pub mod FormsLists
pub mod FormsPrograms
mod NamesNaming
mod NamesUsages
mod NamesForms
mod NamesExpressions
mod NamesStatements
mod NamesListed
pub mod NamesBodies
mod LocalityAgreeing
mod LocalityExpressions
mod LocalityOutermost
mod LocalityStatements
pub mod LocalityParts
pub mod LocalityBodies
mod LocalityWorked
mod PlacesForms
mod PlacesExpressions
mod PlacesStatements
pub mod PlacesBodies
pub mod PlacesUsages
