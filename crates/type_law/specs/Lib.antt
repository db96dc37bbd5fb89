pub mod DeclarationsTypes
pub mod DeclarationsSound
pub mod DeclarationsLaws
pub mod ExpressionsAgreement
pub mod ExpressionsLaws
pub mod StatementsLaws
pub mod SizesLaws
pub mod ProgramsLaws
