pub mod Paths
pub mod Calls
pub mod Trees
pub mod Plans
pub mod Held
pub mod Standing
pub mod Listings
pub mod Faults
