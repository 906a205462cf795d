pub mod Agreeing
pub mod Filled
pub mod LawOfLosses
