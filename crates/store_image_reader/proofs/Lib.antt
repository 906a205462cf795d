pub mod ItemSteps
pub mod ListSteps
pub mod ListPlaces
pub mod LineHeads
pub mod NewestVersion
pub mod BegunLines
pub mod LineParts
