pub mod Parts
pub mod Moves
pub mod ReadRows
