pub mod Names
pub mod Tables
pub mod Shelves
pub mod Ordered
pub mod Places
pub mod Index
