pub mod Picking
pub mod Keys
pub mod Carrying
