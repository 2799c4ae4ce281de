pub use Rattle.pf_io.specs.Causes
pub mod Files
pub mod Crashes
pub mod Recorded
pub mod Scrambles
pub mod Tapes
pub mod Laws
