pub mod DeclarationsSaid
pub mod DeclarationsTrees
pub mod DeclarationsLaws
pub mod Calls
pub mod CallsLaws
pub mod CallsAccepted
pub mod TextsLaws
