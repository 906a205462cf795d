pub mod After
pub mod Lengths
