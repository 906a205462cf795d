pub mod TestedLaws
pub mod ScannedLaws
pub mod RowOrderLaws
pub mod HalvedCells
