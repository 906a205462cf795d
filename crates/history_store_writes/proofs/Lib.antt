pub mod Rows
pub mod Room
pub mod Carry
pub mod Others
