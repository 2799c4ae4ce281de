pub mod AskChunks
pub mod Halves
pub mod Counts
pub mod Forms
