pub mod StepCalls
pub mod FetchedBytes
pub mod Terms
