pub mod Beginning
pub mod Conditions
pub mod Ending
pub mod Idle
pub mod Turns
