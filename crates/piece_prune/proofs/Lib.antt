pub mod ValidCells
pub mod Pruned
pub mod KeptPieces
pub mod PushedTypes
pub mod PartSteps
