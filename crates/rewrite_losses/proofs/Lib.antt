pub mod Maps
pub mod NamedColumns
pub mod CommonColumns
pub mod OverNames
pub mod OneBack
pub mod Places
pub mod Sides
pub mod NamedItems
