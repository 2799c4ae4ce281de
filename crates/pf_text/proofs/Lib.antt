mod Decimals
pub mod WrittenKept
mod LineWords
pub mod Stretches
pub mod ZeroRuns
