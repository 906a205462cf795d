pub mod Constants
pub mod Grammar
pub mod Reader
pub mod TreeCounts
pub mod Where
