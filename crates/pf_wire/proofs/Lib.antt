pub mod WireLaws
pub mod PacketSizes
mod ReaddressedPackets
