pub mod Productions
pub mod OperatorReader
pub mod TreeTexts
pub mod Texts
pub mod Printed
pub mod OperatorParts
pub mod OperatorCounts
