pub mod Starts
pub mod Filing
pub mod Mounts
pub mod Standing
pub mod Lives
pub mod Nexts
