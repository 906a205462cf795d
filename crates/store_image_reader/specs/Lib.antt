pub mod Seen
pub mod Due
pub mod NextVersion
pub mod Ordered
