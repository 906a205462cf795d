pub mod QueryFaults
pub mod Checking
pub mod Applied
pub mod AcceptedWidths
pub mod Queries
pub mod VersionGroups
