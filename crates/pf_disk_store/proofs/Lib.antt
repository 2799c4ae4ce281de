pub mod States
pub mod Pairs
