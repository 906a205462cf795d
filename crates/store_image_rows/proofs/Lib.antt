pub mod ListPlaces
pub mod FilledKeys
pub mod MergedColumns
pub mod ClashingRows
pub mod CurrentRows
pub mod Walking
pub mod CheckedShowings
