pub mod BlocksLemmas
mod FramesLemmas
mod PiecesLemmas
mod StackLemmas
mod TableLemmas
