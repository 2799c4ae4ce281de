pub mod Bodies
pub mod Quiet
