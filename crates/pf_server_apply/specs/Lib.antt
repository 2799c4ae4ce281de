pub mod Claims
pub mod Fetching
pub mod Jobs
pub mod Probing
pub mod Reads
pub mod Saving
