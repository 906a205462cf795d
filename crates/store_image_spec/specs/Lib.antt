pub mod Images
pub mod Encoding
pub mod Items
pub mod Reader
pub mod ItemChecks
pub mod ShownPast
pub mod Lengths
