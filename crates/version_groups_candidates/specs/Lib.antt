pub mod Ranges
pub mod Filters
pub mod Candidates
