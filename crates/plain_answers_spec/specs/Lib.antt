pub mod Choosing
pub mod Branches
pub mod Naming
pub mod Reading
pub mod Pushing
