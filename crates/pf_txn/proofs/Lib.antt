pub mod Sizes
pub mod PlannedSizes
pub mod ChangeLaws
pub mod TxnLaws
