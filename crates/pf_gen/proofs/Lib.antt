pub mod NextNumbers
