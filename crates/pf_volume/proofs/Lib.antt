pub mod RunSectors
