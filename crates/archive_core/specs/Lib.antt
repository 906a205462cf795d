pub mod NextRecord
pub mod Fields
pub mod DiskReads
pub mod Putting
pub mod Committing
pub mod Checkpointing
pub mod Mounting
pub mod State
