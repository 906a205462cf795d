pub mod Left
pub mod Source
pub mod Statements
pub mod Summary
pub mod Tallied
