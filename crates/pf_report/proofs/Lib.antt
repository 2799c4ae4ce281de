pub mod Walks
pub mod Thin
pub mod LineRefusals
