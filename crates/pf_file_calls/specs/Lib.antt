pub mod Blocks
pub mod Filling
pub mod Faults
pub mod Moving
pub mod Calls
