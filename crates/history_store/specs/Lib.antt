pub mod Store
pub mod Handing
pub mod Change
pub mod TableFields
pub mod Scans
pub mod Cuts
pub mod ByValue
pub mod Restoring
