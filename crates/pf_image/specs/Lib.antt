pub mod Halves
pub mod Recovery
pub mod Found
pub mod Current
pub mod Pairs
