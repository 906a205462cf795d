pub mod LeftColumns
pub mod PairedColumns
pub mod NameListLaws
pub mod MakingLaws
