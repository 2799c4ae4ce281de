pub mod Contents
pub mod Stored
pub mod Going
pub mod Planned
pub mod Worked
pub mod Serial
