pub mod Sectors
pub mod Told
pub mod Lists
pub use Rattle.pf_law_runs
