pub mod Reading
pub mod Replaying
pub mod Restoring
pub mod Memory
pub mod Images
