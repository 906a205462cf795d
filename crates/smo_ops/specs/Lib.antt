pub mod TablePlaces
pub mod Walks
