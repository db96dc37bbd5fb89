pub mod Declarable
pub mod Standing
pub mod Laws
pub mod SaidLaws
pub mod SaidNulls
