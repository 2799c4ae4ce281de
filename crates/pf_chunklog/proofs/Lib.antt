pub mod Crash
pub mod Format
pub mod Marks
pub mod Moments
pub mod Parts
pub mod Steps
pub mod Unique
