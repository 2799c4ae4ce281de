pub mod Raw
pub mod Changing
pub mod Kinds
pub mod Standing
pub mod Walks
pub mod Verdicts
pub mod HexLines
