pub mod Lengths
pub mod KeptTables
pub mod WrittenParts
pub mod ShownImages
pub mod RestoredTables
pub mod RestoredImages
