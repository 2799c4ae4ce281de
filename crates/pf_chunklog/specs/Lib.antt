pub mod Records
pub mod Marks
pub mod Logs
pub mod Faults
