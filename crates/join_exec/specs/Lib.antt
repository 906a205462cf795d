pub mod Atoms
pub mod Pieces
pub mod Entries
pub mod Gathered
pub mod HeadValues
pub mod Reading
pub mod Walking
