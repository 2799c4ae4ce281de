pub mod Made
pub mod LeaderMemory
pub mod Accepts
pub mod VoteRules
pub mod Ready
