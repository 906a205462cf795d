pub mod Sorting
pub mod Placing
pub mod Valid
pub mod Cells
pub mod Columns
pub mod Differing
pub mod Removing
