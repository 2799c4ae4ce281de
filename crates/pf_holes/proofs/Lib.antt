pub mod Found
pub mod TrimmedSlots
pub mod SlotLists
pub mod SlotOrder
pub mod HoleLogs
pub mod LogCopies
pub mod FreeTests
pub mod ClosurePasses
