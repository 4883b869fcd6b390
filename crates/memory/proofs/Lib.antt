pub mod Outcome
pub mod Pieces
