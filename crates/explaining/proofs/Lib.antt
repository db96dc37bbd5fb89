pub mod Cuts
mod HoldingLemmas
mod HomeLemmas
mod TurnLemmas
