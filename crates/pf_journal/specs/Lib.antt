pub mod Places
pub mod Sectors
pub mod Layouts
