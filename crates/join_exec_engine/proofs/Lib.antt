pub mod AtomCells
pub mod AtomOrder
pub mod TurnLaws
pub mod PrunedRows
pub mod SingleAtoms
pub mod OwnRows
pub mod KeptRows
pub mod RowPlaces
