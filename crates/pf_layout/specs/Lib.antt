pub mod Supers
pub mod Faults
pub mod Paths
pub mod Calls
