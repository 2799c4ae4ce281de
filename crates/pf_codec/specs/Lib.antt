pub mod Spelling
pub mod Tails
pub mod Fitting
pub mod Parsers
pub mod Reading
