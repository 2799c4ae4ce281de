pub mod HigherTerms
pub mod AnswerPackets
pub mod Cases
pub mod CommitMarks
pub mod TakenImages
pub mod SavedHalves
