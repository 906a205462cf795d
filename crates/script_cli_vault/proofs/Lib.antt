pub mod Answers
pub mod Committed
pub mod KeptRows
pub mod ArchiveOnDisk
