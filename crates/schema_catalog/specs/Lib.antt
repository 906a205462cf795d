pub mod Databases
pub mod Differences
pub mod Places
pub mod Tables
