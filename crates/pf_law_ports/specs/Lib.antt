pub mod Calls
pub mod Driven
pub mod Replies
pub mod Rising
pub mod Worked
pub use Rattle.pf_group_network
