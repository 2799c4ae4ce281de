pub mod Candidacies
pub mod Looks
pub mod Proposals
pub mod ProposalSpellings
pub mod MergedAcks
pub mod CountedAcks
pub mod ResentPackets
pub mod Again
