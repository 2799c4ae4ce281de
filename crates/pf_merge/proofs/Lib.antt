pub mod AscendingLists
pub mod VoidTests
pub mod LogSteps
pub mod LastEntries
pub mod MergeResults
