pub mod Acking
pub mod Electing
pub mod Resending
pub mod Submitting
