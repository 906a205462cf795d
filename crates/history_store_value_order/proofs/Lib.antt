pub mod Places
pub mod Marks
pub mod Sorting
