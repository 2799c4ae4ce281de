pub mod Places
pub mod Windows
pub mod SlotSets
pub mod HoleLogs
pub mod Closing
