pub mod Opposite
