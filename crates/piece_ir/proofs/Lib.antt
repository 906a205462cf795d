pub mod ReferenceLists
pub mod Placed
pub mod ChosenViews
pub mod PutValues
pub mod PutPieces
pub mod SameLaws
