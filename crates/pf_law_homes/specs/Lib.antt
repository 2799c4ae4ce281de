pub mod Halves
pub mod Chunks
pub mod Ports
pub mod Routed
