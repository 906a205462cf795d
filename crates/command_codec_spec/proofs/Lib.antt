pub mod AcceptedCommands
pub mod CommandFormats
pub mod Deciding
pub mod Correctness
pub mod Numbers
pub mod OneMember
pub mod PartFormats
pub mod TreeFormats
mod Worked
