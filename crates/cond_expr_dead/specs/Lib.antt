pub mod Steps
pub mod Tried
pub mod Shown
pub mod LowerBounds
pub mod Earlier
