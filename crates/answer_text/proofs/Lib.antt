pub mod Doubling
pub mod Gathered
pub mod Listed
pub mod TablesBefore
mod Worked
mod WorkedSizes
