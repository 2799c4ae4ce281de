pub mod Rows
pub mod Faultless
pub mod WordLaws
pub mod NewOption
pub mod OlderWords
