-- What a reader has to believe: sentences, blocks, what explaining comes to, the laws.
pub mod PairSentences
pub mod PairNames
pub mod HostBlocks
pub mod PolicyBlocks
pub mod RefusalBlocks
pub mod PairExplains
pub mod PairSeen
pub mod Laws
