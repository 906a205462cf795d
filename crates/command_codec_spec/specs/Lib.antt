pub mod Found
pub mod Valid
pub mod Reader
pub mod Reading
pub mod Encoding
