pub mod KeyLaws
pub mod Aggregates
pub mod Turns
pub mod Tallies
pub mod Listed
pub mod Parts
pub mod Lasting
pub mod Aggregated
