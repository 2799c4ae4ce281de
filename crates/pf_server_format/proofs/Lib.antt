mod Begun
mod NewServers
pub mod OpeningState
