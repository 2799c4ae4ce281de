pub mod Orders
pub mod Routed
pub mod Sectors
pub mod Positions
pub mod Worked
pub mod Copying
pub mod InTurn
