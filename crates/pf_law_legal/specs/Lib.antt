pub mod Accepted
pub use Rattle.pf_world
