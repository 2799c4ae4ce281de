pub mod Symbols
pub mod Labels
pub mod Titles
