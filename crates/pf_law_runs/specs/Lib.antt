pub mod Scripts
pub use Rattle.pf_world
pub use Rattle.pf_law_movers
pub use Rattle.pf_law_movers.specs.pf_group_network
pub use Rattle.pf_law_movers.specs.pf_law_service
pub use Rattle.pf_law_movers.specs.pf_law_ports
