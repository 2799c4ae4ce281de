pub mod Numbers
pub mod Volumes
