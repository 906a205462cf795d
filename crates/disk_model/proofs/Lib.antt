pub mod Shapes
pub mod Following
pub mod Pushing
pub mod Keeping
pub mod Spoiling
pub mod Replaying
pub mod ImagesAfter
