pub mod StartTables
pub mod AckTables
pub mod KnownTables
pub mod SnapshotTables
pub mod FewTables
pub mod Thin
pub mod Widths
