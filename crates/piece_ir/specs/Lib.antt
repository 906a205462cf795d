pub mod Shown
pub mod Substituting
pub mod Placing
pub mod Sameness
pub mod ExplainedPieces
