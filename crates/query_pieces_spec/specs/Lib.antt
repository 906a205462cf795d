pub mod Piecewise
pub mod Gathering
