pub mod Disks
pub mod Images
pub mod Moments
pub mod Replays
pub mod Rooms
pub mod CrashBytes
pub mod Writes
