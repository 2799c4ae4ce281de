pub mod Votes
pub mod Reads
