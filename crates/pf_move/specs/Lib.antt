pub mod Movers
pub mod Routes
pub mod Turns
