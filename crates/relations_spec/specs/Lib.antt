pub mod Sets
pub mod Choices
pub mod Spans
pub mod Timed
pub mod Listing
pub mod Timeline
