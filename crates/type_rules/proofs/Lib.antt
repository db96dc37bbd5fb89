pub mod ConversionLemmas
pub mod OperatorLemmas
pub mod SilenceLemmas
pub mod TypeLemmas
