pub mod DeadPieces
pub mod Shown
