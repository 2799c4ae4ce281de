pub mod Opening
pub mod Rooms
