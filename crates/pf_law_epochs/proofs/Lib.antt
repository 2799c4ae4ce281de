pub mod Lists
pub mod EpochCarries
pub mod Orders
pub mod Once
pub mod Sectors
pub mod InTurn
pub mod Positions
pub mod MoverCarries
mod Earlier
mod WorkedChunks
