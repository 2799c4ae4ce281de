pub mod Listing
pub mod Disks
