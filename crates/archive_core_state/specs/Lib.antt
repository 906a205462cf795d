pub mod ArchiveContents
pub mod AcceptedCommands
pub mod NewCommands
pub mod Committing
pub mod Asking
pub mod Queries
pub mod VersionGroups
