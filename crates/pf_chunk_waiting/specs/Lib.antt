pub mod Waiters
pub mod Places
