pub mod Faults
pub mod LivingPieces
