pub mod Gates
pub mod ReadRecords
pub mod SameRecords
pub mod Replayed
pub mod Restored
pub mod Memory
