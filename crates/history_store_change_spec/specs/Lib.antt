pub mod Table
pub mod Entries
pub mod Handing
pub mod Change
pub mod Kept
pub mod ByValue
pub mod Restoring
