pub mod Kept
pub mod Numbers
pub mod Runs
pub mod Words
pub mod Zeros
