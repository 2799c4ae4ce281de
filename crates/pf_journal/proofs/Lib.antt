pub mod BlockPlaces
pub mod BlockSpellings
pub mod LaidOut
