pub mod Inserts
pub mod Rows
pub mod Places
pub mod AckRows
pub mod MarkTables
pub mod StartTables
pub mod Fews
mod Thin
