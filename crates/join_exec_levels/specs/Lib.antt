pub mod Places
pub mod Sources
pub mod Grouping
pub mod Levels
