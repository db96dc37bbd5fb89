pub mod Hubs
pub mod Alone
pub mod HubLaws
pub mod IsHub
pub mod Places
pub mod ErrorNumbers
