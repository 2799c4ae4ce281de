pub mod Least
pub mod ConfirmedReads
pub mod ConfirmedCounts
