pub mod Desks
pub mod Ports
