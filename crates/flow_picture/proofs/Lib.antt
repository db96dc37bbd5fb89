mod AppendLemmas
mod ArrowLemmas
pub mod Cuts
pub mod ExistingPictures
mod LoopLemmas
mod ObjectLemmas
pub mod OrderLemmas
mod PictureLemmas
mod SameLemmas
mod SearchLemmas
mod SecretLemmas
mod ShownLemmas
mod StageLemmas
