pub mod Texts
pub mod Refusals
pub mod Mounts
pub mod Records
pub mod Live
pub mod Moves
pub mod Generated
