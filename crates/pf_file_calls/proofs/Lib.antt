pub mod BlockChunks
pub mod Cut
pub mod FilledBlocks
pub mod Steps
pub mod Kept
pub mod PlannedProposals
pub mod Insides
