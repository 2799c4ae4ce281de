pub mod Calls
pub mod Blocks
pub mod Ordered
