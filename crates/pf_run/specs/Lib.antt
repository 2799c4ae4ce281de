pub mod Scripts
pub mod Placed
pub mod Reports
pub mod Headline
pub mod Running
pub mod Generating
pub mod Listing
pub mod Outcomes
