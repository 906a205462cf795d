pub mod Bytes
pub mod Lexed
pub mod Spaced
pub mod Lexemes
