pub mod Answers
pub mod Productions
