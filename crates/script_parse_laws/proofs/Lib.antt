pub mod Bytes
pub mod PartModes
pub mod Prefixes
pub mod PartsFound
pub mod Scripts
pub mod LexerTexts
pub mod OpenTexts
pub mod CleanTails
