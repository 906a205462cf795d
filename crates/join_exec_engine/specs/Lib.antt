pub mod Atoms
pub mod InSlice
