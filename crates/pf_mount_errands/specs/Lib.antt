pub mod Blocks
pub mod Places
pub mod Positions
pub mod Errands
pub mod Looks
