pub mod Accepting
pub mod Halves
