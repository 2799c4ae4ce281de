pub mod SentPackets
pub mod AppliedSlots
pub mod Steps
pub mod Canonicals
pub mod Images
pub mod StoredRecords
pub mod StepEnds
mod Aboves
