pub mod Services
pub mod Served
pub use Rattle.pf_law_ports
