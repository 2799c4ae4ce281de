pub mod Filling
pub mod Works
