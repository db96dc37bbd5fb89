-- What a reader has to believe: where operators work on secrets, and the tree in which each has become a call.
pub mod Sites
pub mod Lifted
pub mod Laws
