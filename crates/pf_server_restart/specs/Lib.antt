pub mod Beginning
pub mod Recovering
pub mod Testing
pub mod Reviving
pub mod Faults
