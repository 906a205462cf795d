pub mod Looking
pub mod Scanning
pub mod SameRows
