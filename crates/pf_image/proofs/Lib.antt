pub mod Files
pub mod LoadedHalves
pub mod Logs
pub mod Times
pub mod SpelledRecords
