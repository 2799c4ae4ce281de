pub mod Taken
pub mod TextBytes
pub mod TextPieces
pub mod Pieces
pub mod WriteFaults
pub mod CheckEnds
