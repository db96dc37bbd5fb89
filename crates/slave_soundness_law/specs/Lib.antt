pub mod Laws
pub mod Sound
pub mod Typed
pub mod MessagesFormat
pub mod MessagesLaws
