pub mod Staying
pub mod Lasts
pub mod Cursors
