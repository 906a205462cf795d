pub mod Handing
pub mod Lines
pub mod Numbers
