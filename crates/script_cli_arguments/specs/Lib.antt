pub mod Arguments
pub mod Consisting
pub mod Reading
