pub mod Faults
pub mod Looks
pub mod Telling
pub use Rattle.pf_shared
