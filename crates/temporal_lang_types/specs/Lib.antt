pub mod Branches
pub mod Queries
