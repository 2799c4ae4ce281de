pub mod Texts
pub mod Symbols
pub mod Shapes
pub mod Pages
